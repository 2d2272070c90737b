-- `heronditch::places::heronditch_bar` meets its contract: the call of the crate below, its reply as numbers. Assumes
-- nothing.
use Rattle.base_lists.specs.Kit.{ap}
use Rattle.heronditch.specs.Host.{host_bar}
use Rattle.heronditch.proofs.places.heronditch_bar.Goals as goal

pub returns : goal.returns
unfolding host_bar
returns c =
    rw (c.of_number.ensures, ← c.editions_of.ensures.0, ← c.editions_of.ensures.1) (ap host_bar c.bar.ensures)
