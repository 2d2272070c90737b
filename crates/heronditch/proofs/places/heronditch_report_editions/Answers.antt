-- `heronditch::places::heronditch_report_editions` meets its contract: the call of the crate below, its reply as
-- numbers. Assumes nothing.
use Rattle.base_lists.specs.Kit.{ap}
use Rattle.heronditch.specs.Host.{host_report}
use Rattle.heronditch.proofs.places.heronditch_report_editions.Goals as goal

pub returns : goal.returns
unfolding host_report
returns c =
    rw (c.of_report.ensures, ← c.editions_of.ensures.0, ← c.editions_of.ensures.1) (ap host_report c.report.ensures)
