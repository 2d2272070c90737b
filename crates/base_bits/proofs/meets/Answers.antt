-- `base_bits::meets` meets its contract, by the law of the test at 32 digits. Assumes nothing.
use Rattle.base_bits.specs.Bits.{intersects}
use Rattle.base_bits.proofs.Tests.{intersect-test}
use Rattle.base_bits.proofs.meets.Goals as goal

pub returns : goal.returns
unfolding intersects
returns c = intersect-test 32 c.args.a c.args.b c.ranges.a.fits c.ranges.b.fits
