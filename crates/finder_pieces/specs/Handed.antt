-- What is handed to standard output.
use Rattle.std.specs.Prelude.{◌≡◌, ◌++◌, ◌≤◌}
use Rattle.base_lists.specs.Kit.{Bool, false, true, List, ℕ}
use Rattle.file_format.specs.Layout.{CircuitFile}
use Rattle.report.specs.Report.{report_of}
use Rattle.report_answer.specs.Whole.{items_of, prefix_of}

-- bytes that go on with a report: after the text of its first items they make that of the items up to a later one
unfoldable pub GoesOn : CircuitFile → CircuitFile → ℕ → ℕ → List ℕ → Type 0
GoesOn pattern board from next bytes = prefix_of pattern board from ++ bytes ≡ prefix_of pattern board next

-- So many items were handed over: their text is the report, or, where a write failed, a front of it.
unfoldable pub ReportHanded : CircuitFile → CircuitFile → ℕ → Bool → Type 0
ReportHanded pattern board k true = prefix_of pattern board k ≡ report_of pattern board
ReportHanded pattern board k false = k ≤ items_of pattern board
