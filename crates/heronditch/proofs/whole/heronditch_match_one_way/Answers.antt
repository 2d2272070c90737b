-- `heronditch::whole::heronditch_match_one_way` meets its contract: the call of the crate below, its reply as numbers.
-- Assumes nothing.
use Rattle.base_lists.specs.Kit.{ap}
use Rattle.heronditch.specs.Host.{host_match}
use Rattle.heronditch.proofs.whole.heronditch_match_one_way.Goals as goal

pub returns : goal.returns
unfolding host_match
returns c =
    rw (c.of_match.ensures, ← c.editions_of-editions.ensures.0, ← c.editions_of-editions.ensures.1) (ap host_match c.match_one_way.ensures)
