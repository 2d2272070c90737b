-- The report call, whole: its reply and the buffer's later content, from the inputs alone. A report may be far longer than a buffer, so it is
-- put piece by piece: a call puts the lines of the centres from a centre on, as long as there is room for the longest line, and answers
-- where to go on. proofs/Promise shows that the pieces, one after another, are the report.
use Rattle.std.specs.Prelude.{◌∷◌, Result, Ok, Err}
use Rattle.base_lists.specs.Kit.{List, [], ℕ, length}
use Rattle.graph.specs.Circuit.{Circuit}
use Rattle.file_format.specs.declared.Role.TheVariants.{Pattern}
use Rattle.file_format.specs.declared.Refusal.{Refusal}
use Rattle.file_format.specs.Circuit.{circuit_of}
use Rattle.file_format.specs.Layout.{CircuitFile}
use Rattle.file_format.specs.Reading.{filled}
use Rattle.file_format.specs.Refusals.{Verdict, accept, refuse, first, short_table}
use Rattle.file_format.specs.Reply.{Reply, reply}
use Rattle.file_pair.specs.Pair.{pair_conditions}
use Rattle.report.specs.Lines.{longest_line, longest_refusal}
use Rattle.report_pieces.specs.declared.PutPiece.{PutPiece}
use Rattle.report_pieces.specs.Pieces.{Piece, lines_piece, refusal_piece}

-- whether a file is refused; "the pattern's 1 to 6 before the board's"
abbrev pub files_verdict : CircuitFile → CircuitFile → Verdict
files_verdict pattern board = first (pair_conditions Pattern pattern board)

-- the piece of two files, by that
unfoldable pub piece_for : Verdict → Circuit → Circuit → ℕ → ℕ → ℕ → Piece
piece_for accept pattern board from found room = lines_piece pattern board from found room
piece_for (refuse x) pattern board from found room = refusal_piece x from found

unfoldable pub piece_of : CircuitFile → CircuitFile → ℕ → ℕ → ℕ → Piece
piece_of pattern board from found room = piece_for (files_verdict pattern board) (circuit_of pattern) (circuit_of board) from found room

-- ---- the call

-- number and values of each case of the answer: where to go on, how many centres had a place, and how many bytes were put
unfoldable pub report_reply : Result PutPiece Refusal → Reply
report_reply (Ok part) = record { verdict = accept; values = part.next ∷ part.found ∷ part.size ∷ [] }
report_reply (Err x) = record { verdict = refuse x; values = [] }

-- the reply, and the buffer as the call leaves it
pub record ReportOutcome : Type 0 where
  pub reply : Reply
  pub out : List ℕ

-- the room that a piece needs: that of the longest line, or of the one line of a refused file
unfoldable pub need_for : Verdict → ℕ
need_for accept = longest_line
need_for (refuse x) = longest_refusal

-- a piece put into a buffer that has the room needed; else 8, and the buffer is left as it was
unfoldable pub outcome_for : ℕ → Piece → List ℕ → ReportOutcome
outcome_for need p out =
    let verdict = first (short_table need (length out) ∷ []) in
    record { reply = reply verdict (p.next ∷ p.found ∷ length p.text ∷ []); out = filled verdict p.text out }

-- "Rising numbers are the order": the files' conditions come before 8 here too, and what a refused file comes to is text. 8 is the only refusal. For the
-- lines the room needed is a bound, as merging needs the first pattern's file length: 8 is then known without matching, and what does for
-- one piece does for every later one, so that no report is refused half-way. Bytes after the piece keep their content.
unfoldable pub reporting : CircuitFile → CircuitFile → ℕ → ℕ → List ℕ → ReportOutcome
reporting pattern board from found out = outcome_for (need_for (files_verdict pattern board)) (piece_of pattern board from found (length out)) out
