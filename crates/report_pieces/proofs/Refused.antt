-- The one line of a refused file, and nothing after it. Assumes nothing.
use Rattle.std.specs.Prelude.{◌≡◌, ◌≤◌, ◌<◌}
use Rattle.base_lists.specs.Kit.{refl, List, ℕ, length, arith, eq-eqb, ne_eqb}
use Rattle.base_text.specs.Text.{Put, Fits}
use Rattle.base_text.proofs.Text.{put-nothing}
use Rattle.file_format.specs.declared.Refusal.{Refusal}
use Rattle.report.specs.Lines.{longest_refusal}
use Rattle.report.specs.Report.{refusal_line}
use Rattle.report.proofs.Lengths.{refusal-length}
use Rattle.report_pieces.specs.Pieces.{refusal_piece, Wrote}

module _ (x : Refusal) (out : List ℕ) (from found : ℕ) where
  pub refused-later : (from ≡ 0 → ⊥) → Wrote out (refusal_piece x from found) out (record { next = from; found = found; size = 0 })
  unfolding refusal_piece
  refused-later h =
      rw (ne_eqb from 0 h) (record { fits = record { room = omega arith }; put = put-nothing; next = refl; found = refl })

  pub refused-fits : x.number < 1000 → longest_refusal ≤ length out → Fits out 0 (refusal_line x)
  refused-fits small room = record { room = omega (arith, refusal-length x small) }

  pub refused-first : {after : List ℕ} {size : ℕ} → from ≡ 0 → Fits out 0 (refusal_line x) → Put out 0 (refusal_line x) after size
      → Wrote out (refusal_piece x from found) after (record { next = 1; found = found; size = size })
  unfolding refusal_piece
  refused-first e room p = rw (eq-eqb from 0 e) (record { fits = room; put = p; next = refl; found = refl })
