-- What the call on two files comes to, by cases: a piece that is put, a buffer that is too short; a refused file, or the lines. Assumes nothing.
use Rattle.std.specs.Prelude.{◌≡◌, ◌≤◌, ◌<◌, Ok, Err}
use Rattle.base_lists.specs.Kit.{List, ℕ, zero-add, length, le-ltb, lt-ltb}
use Rattle.base_text.proofs.Text.{put_whole}
use Rattle.file_format.specs.declared.File.TheVariants.{Neither}
use Rattle.file_format.specs.declared.Refusal.{Refusal}
use Rattle.file_format.specs.Circuit.{circuit_of}
use Rattle.file_format.specs.Layout.{CircuitFile}
use Rattle.file_format.specs.Reading.{filled}
use Rattle.file_format.specs.Refusals.{accept, refuse, first, short_table}
use Rattle.file_format.specs.Reply.{reply}
use Rattle.report.specs.Lines.{longest_line, longest_refusal}
use Rattle.report_pieces.specs.declared.PutPiece.{PutPiece}
use Rattle.report_answer.specs.Call.{files_verdict, piece_for, piece_of, report_reply, need_for, outcome_for, reporting}
use Rattle.report_pieces.specs.Pieces.{Piece, lines_piece, refusal_piece, Wrote}

-- ---- a piece

module _ (need : ℕ) (p : Piece) (out : List ℕ) where
  pub outcome-short : length out < need → record { reply = report_reply (Err (record { number = 8; file = Neither })); out = out } ≡ outcome_for need p out
  unfolding outcome_for report_reply reply filled first short_table
  outcome-short h = rw (lt-ltb (length out) need h)

  pub outcome-put : {after : List ℕ} {part : PutPiece} → need ≤ length out → Wrote out p after part
      → record { reply = report_reply (Ok part); out = after } ≡ outcome_for need p out
  unfolding outcome_for report_reply reply filled first short_table
  outcome-put h w =
      rw (le-ltb (length out) need h, w.next, w.found, w.put.end, zero-add (length p.text), put_whole w.put w.fits)

-- ---- two files

module _ (pattern board : CircuitFile) (from found : ℕ) (out : List ℕ) where
  pub reporting-refused : {x : Refusal} → files_verdict pattern board ≡ refuse x
      → outcome_for longest_refusal (refusal_piece x from found) out ≡ reporting pattern board from found out
  unfolding reporting need_for piece_of piece_for
  reporting-refused e = rw e

  pub reporting-lines : files_verdict pattern board ≡ accept
      → outcome_for longest_line (lines_piece (circuit_of pattern) (circuit_of board) from found (length out)) out
      ≡ reporting pattern board from found out
  unfolding reporting need_for piece_of piece_for
  reporting-lines e = rw e
