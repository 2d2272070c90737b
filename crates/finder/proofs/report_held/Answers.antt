use Rattle.finder.proofs.Ending.{ran-begun}
use Rattle.finder.proofs.report_held.Goals as goal

pub returns : goal.returns
returns c = rw c.ended.ensures (ran-begun _ _ _ c.args.files _ _ _ c.in-Some.is c.in-Some-board.is c.print_report.ensures)
