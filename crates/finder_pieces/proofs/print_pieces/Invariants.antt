-- The next piece starts at an item of the report, and as many centres before it have a place as are counted. The measure is how many items are left.
use Rattle.std.specs.Prelude.{◌≡◌, ◌≤◌, ◌-◌, length}
use Rattle.file_format.specs.Layout.{first_edition}
use Rattle.report.specs.Lines.{longest_line}
use Rattle.report_answer.specs.Whole.{items_of, places_of}
use Rattle.finder_pieces.proofs.print_pieces.Given as goal

abbrev pub invariant-loop-part : goal.invariant-loop-part
invariant-loop-part l =
    (l.handed ≤ items_of (first_edition l.pattern) (first_edition l.board)) × (l.found ≡ places_of (first_edition l.pattern) (first_edition l.board) l.handed) × (longest_line ≤ length l.out)

abbrev pub decreases-loop-part : goal.decreases-loop-part
decreases-loop-part l = items_of (first_edition l.pattern) (first_edition l.board) - l.handed
