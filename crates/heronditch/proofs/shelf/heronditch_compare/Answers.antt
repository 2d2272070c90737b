-- `heronditch::shelf::heronditch_compare` meets its contract: the call of the crate below, its answer as numbers.
-- Assumes nothing.
use Rattle.base_lists.specs.Kit.{◌∙◌, ap}
use Rattle.heronditch.specs.Host.{host_compare}
use Rattle.heronditch.proofs.shelf.heronditch_compare.Goals as goal

pub returns : goal.returns
returns c = c.of_compare.ensures ∙ ap host_compare c.compare.ensures
