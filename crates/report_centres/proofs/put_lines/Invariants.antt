-- `report_centres::put_lines` meets its contract. The loop's invariant: the lines of the centres before c are put and those with a place
-- counted (Progress), of every pattern and board that lines are put from; and the scratch tables are as long as the board's. The measure is how
-- many centres are left. Assumes nothing.
use Rattle.std.specs.Prelude.{◌≡◌, ◌-◌}
use Rattle.base_lists.specs.Kit.{length}
use Rattle.graph.specs.Circuit.{Circuit}
use Rattle.table.specs.Prepared.{tables}
use Rattle.report_locate.specs.Source.{Source}
use Rattle.report_centres.specs.Centres.{Kept}
use Rattle.report_pieces.proofs.Progress.{Progress}
use Rattle.report_centres.proofs.put_lines.Given as goal

abbrev pub invariant-loop-dist : goal.invariant-loop-dist
invariant-loop-dist l =
    ((pattern board : Circuit) → Source pattern board (tables l.masks l.offsets l.targets) l.whole l.resume.radius → Progress pattern board l.resume.from l.resume.found l.initial.out l.c l.count l.at l.out)
    × ((length l.dist ≡ length l.whole) × (length l.queue ≡ length l.whole))
    × Kept (tables l.masks l.offsets l.targets) l.whole l.component_of l.out l.at l.texts

abbrev pub decreases-loop-dist : goal.decreases-loop-dist
decreases-loop-dist l = length l.whole - l.c
