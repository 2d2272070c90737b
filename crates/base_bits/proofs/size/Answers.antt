-- `base_bits::size` meets its contract, by the law of the count at 32 digits. Assumes nothing.
use Rattle.base_bits.specs.Bits.{size_of}
use Rattle.base_bits.proofs.Counts.{ones-count}
use Rattle.base_bits.proofs.size.Goals as goal

pub returns : goal.returns
unfolding size_of
returns c = ones-count 32 c.args.set c.ranges.set.fits
