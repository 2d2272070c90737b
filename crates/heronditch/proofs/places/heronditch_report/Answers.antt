-- `heronditch::places::heronditch_report` meets its contract: the call told editions, told the first twice. Assumes
-- nothing.

use Rattle.heronditch.proofs.places.heronditch_report.Goals as goal

pub returns : goal.returns
returns c =
    rw c.first_edition-first.ensures at c.heronditch_report_editions.ensures
