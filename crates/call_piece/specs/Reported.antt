-- What the call comes to on two files that were opened.
use Rattle.std.specs.Prelude.{◌≡◌, Result}
use Rattle.base_lists.specs.Kit.{List, ℕ}
use Rattle.file_format.specs.declared.Refusal.{Refusal}
use Rattle.file_format.specs.Layout.{CircuitFile}
use Rattle.file_pair.specs.declared.Pair.{Pair}
use Rattle.table.specs.Prepared.{Tables}
use Rattle.call_open.specs.Opened.{Opened}
use Rattle.report_answer.specs.Call.{ReportOutcome, reporting}

-- the call's outcome, of every two files that were opened so
abbrev pub EveryReported : ℕ → ℕ → Result Pair Refusal → Tables → List ℕ → List ℕ → List ℕ → List ℕ → ReportOutcome → Type 0
EveryReported from found read t whole componentOf sizes out o =
    (pattern board : CircuitFile) → Opened from pattern board read t whole componentOf sizes → o ≡ reporting pattern board from found out
