-- `base_bits::without_first` meets its contract: less one, every digit up to the lowest that is set changes, and no other. Assumes nothing.
use Rattle.base_lists.specs.Kit.{arith}
use Rattle.base_bits.proofs.Members.{without-and}
use Rattle.base_bits.proofs.without_first.Goals as goal

pub returns : goal.returns
returns c = without-and c.args.set (omega arith) c.ranges.set.fits
