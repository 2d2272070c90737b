-- `base_bits::subset` meets its contract, by the law of the test at 32 digits. Assumes nothing.
use Rattle.base_bits.specs.Bits.{subset_of}
use Rattle.base_bits.proofs.Tests.{subset-test}
use Rattle.base_bits.proofs.subset.Goals as goal

pub returns : goal.returns
unfolding subset_of
returns c = subset-test 32 c.args.a c.args.b c.ranges.a.fits
