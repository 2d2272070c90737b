-- `place_components::mark` meets its contract. Assumes nothing.

use Rattle.place_components.proofs.mark.Goals as goal

pub store_each-requires : goal.store_each-requires
store_each-requires c = rw c.fill.auto.s c.requires

pub returns : goal.returns
returns c = rw c.fill.ensures at c.store_each.ensures
