-- Of a file the program reads at most a byte more than the longest that its role accepts: the report of what is read so is the report of
-- the whole files. Assumes nothing.
use Rattle.std.specs.Prelude.{◌≡◌}
use Rattle.base_lists.specs.Kit.{◌∙◌, refl, ap₂, List, ℕ}
use Rattle.file_format.specs.declared.Edition.TheVariants.{First}
use Rattle.file_format.specs.declared.Role.TheVariants.{Pattern, Board}
use Rattle.file_format.specs.Layout.{first_edition}
use Rattle.file_format.specs.Refusals.{Condition, Verdict, accept, refuse, first, file_conditions}
use Rattle.file_format.proofs.Refusals.{first-accept, first-refuse}
use Rattle.file_format.proofs.Cut.{cut-verdict, accepted-whole}
use Rattle.report.specs.Report.{report_for, report_of}
use Rattle.finder_read.specs.Cut.{cut}

-- The report of what is read of two files is theirs.
pub cut-report : (pattern board : List ℕ) → report_of (first_edition (cut Pattern pattern)) (first_edition (cut Board board)) ≡ report_of (first_edition pattern) (first_edition board)
unfolding report_of report_for
cut-report pattern board = go (first (file_conditions Pattern (first_edition pattern))) refl (first (file_conditions Board (first_edition board))) refl
  where
    read_board : List Condition
    read_board = file_conditions Board (first_edition (cut Board board))

    go : (v : Verdict) → first (file_conditions Pattern (first_edition pattern)) ≡ v → (w : Verdict) → first (file_conditions Board (first_edition board)) ≡ w
        → report_of (first_edition (cut Pattern pattern)) (first_edition (cut Board board)) ≡ report_of (first_edition pattern) (first_edition board)
    go accept e accept f = ap₂ (λ (p b : List ℕ). report_of (first_edition p) (first_edition b)) (accepted-whole First Pattern pattern e) (accepted-whole First Board board f)
    go accept e (refuse x) f =
        rw (first-accept _ read_board (cut-verdict First Pattern pattern ∙ e), cut-verdict First Board board)
        (rw (first-accept _ (file_conditions Board (first_edition board)) e, f))
    go (refuse x) e w f =
        rw (first-refuse _ read_board x (cut-verdict First Pattern pattern ∙ e), first-refuse _ (file_conditions Board (first_edition board)) x e)
