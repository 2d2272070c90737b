-- What the contracts of the functions that put the lines of the centres cite: the texts that stand in the buffer, and the piece.
use Rattle.std.specs.Prelude.{◌≡◌, ◌≤◌, ◌<◌, ◌-◌}
use Rattle.base_lists.specs.Kit.{List, ℕ, length, get_or}
use Rattle.base_lists.specs.List.{part}
use Rattle.graph.specs.Circuit.{Circuit}
use Rattle.table.specs.Prepared.{Tables}
use Rattle.place.specs.Spread.{matched, Spread}
use Rattle.report_pieces.specs.declared.PutPiece.{PutPiece}
use Rattle.report_pieces.specs.Pieces.{lines_piece, Wrote}
use Rattle.report_texts.specs.declared.Span.{Span}
use Rattle.report_texts.specs.Texts.{body_text, under}
use Rattle.report_locate.specs.Source.{Source}
use Rattle.report_centres.specs.declared.Resume.{Resume}

-- The text of the component with a number stands in the buffer, before `at`: for each centre with the number it is what follows the colon in the line of the
-- component.
pub record TextNoted (t : Tables) (table componentOf out : List ℕ) (at number : ℕ) (x : Span) : Type 0 where
  pub order : x.from ≤ x.to
  pub short : x.to ≤ at
  pub text :
      (c : ℕ) → c < length table → (get_or table c 0 ≡ 0 → ⊥) → get_or componentOf c 0 ≡ number → (dist : List ℕ) → Spread (length table) c (matched t table) dist →
      part x.from (x.to - x.from) out ≡ body_text t dist table

-- a table that says of no text but where it stands
pub record Kept (t : Tables) (table componentOf out : List ℕ) (at : ℕ) (texts : List ℕ) : Type 0 where
  pub long : length texts ≡ 1024
  pub noted : (number : ℕ) → number < 512 → ((under texts number).to ≡ 0 → ⊥) → TextNoted t table componentOf out at number (under texts number)

-- the piece of every pattern and board that lines are put from is put
abbrev pub EveryWrote : Tables → List ℕ → Resume → List ℕ → List ℕ → PutPiece → Type 0
EveryWrote t table resume before after part =
    (pattern board : Circuit) → Source pattern board t table resume.radius →
    Wrote before (lines_piece pattern board resume.from resume.found (length before)) after part
