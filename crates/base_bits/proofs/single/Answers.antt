-- `base_bits::single` meets its contract: the digit is not shifted out. Assumes nothing.
use Rattle.base_bits.proofs.Digits.{one_shl}
use Rattle.base_bits.proofs.single.Goals as goal

pub returns : goal.returns
returns c = one_shl 32 c.args.u c.requires
