-- `place::parts::driven_parts` meets its contract: the first half of the masks is asked. Assumes nothing.
use Rattle.base_lists.specs.Kit.{sym, length-take-le, arith}
use Rattle.base_lists.specs.List.{part}
use Rattle.place.proofs.parts.driven_parts.Goals as goal

pub slice_bounds-union_of-end : goal.slice_bounds-union_of-end
slice_bounds-union_of-end c = sym (length-take-le 32 c.args.masks.now (omega arith))

pub union_of-requires : goal.union_of-requires
union_of-requires c = rw (length-take-le 32 c.args.masks.now (omega arith)) c.ranges.set.fits

pub returns : goal.returns
unfolding part
returns c = c.union_of.ensures
