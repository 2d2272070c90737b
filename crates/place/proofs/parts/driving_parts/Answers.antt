-- `place::parts::driving_parts` meets its contract: the second half of the masks is asked. Assumes nothing.
use Rattle.base_lists.specs.Kit.{drop, length-drop, length-take-le, arith}
use Rattle.base_lists.specs.List.{part}
use Rattle.place.proofs.parts.driving_parts.Goals as goal

pub union_of-requires : goal.union_of-requires
union_of-requires c =
    rw (length-take-le 32 (drop 32 c.args.masks.now) (omega (arith, length-drop 32 c.args.masks.now))) c.ranges.set.fits

pub returns : goal.returns
unfolding part
returns c = c.union_of.ensures
