-- `base_bits::has` meets its contract: what it computes is the definition. Assumes nothing.
use Rattle.base_lists.specs.Kit.{refl}
use Rattle.base_bits.specs.Bits.{bit}
use Rattle.base_bits.proofs.has.Goals as goal

pub returns : goal.returns
unfolding bit
returns c = refl
