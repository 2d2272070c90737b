-- `heronditch::whole::heronditch_match_third` meets its contract: the call of the crate below, its reply as numbers.
-- Assumes nothing.
use Rattle.base_lists.specs.Kit.{ap}
use Rattle.heronditch.specs.Host.{host_match}
use Rattle.heronditch.proofs.whole.heronditch_match_third.Goals as goal

pub returns : goal.returns
unfolding host_match
returns c =
    rw (c.of_match.ensures, ← c.edition_of.ensures) (ap host_match c.match_bounds.ensures)
