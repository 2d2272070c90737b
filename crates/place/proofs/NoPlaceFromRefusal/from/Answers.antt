-- The refusal of a call in which nothing is searched has counts of 0. Assumes nothing.
use Rattle.base_lists.specs.Kit.{refl}
use Rattle.table.specs.Reply.{no_counts}
use Rattle.place.proofs.NoPlaceFromRefusal.from.Goals as goal

pub returns : goal.returns
unfolding no_counts
returns c = refl
