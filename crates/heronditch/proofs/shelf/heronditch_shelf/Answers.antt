-- `heronditch::shelf::heronditch_shelf` meets its contract: the call of the crate below, its reply as numbers. Assumes
-- nothing.
use Rattle.base_lists.specs.Kit.{ap}
use Rattle.heronditch.specs.Host.{host_shelf}
use Rattle.heronditch.proofs.shelf.heronditch_shelf.Goals as goal

pub returns : goal.returns
unfolding host_shelf
returns c = rw c.of_number.ensures (ap host_shelf c.shelf.ensures)
