-- `base_bits::first` meets its contract: the trailing zeros are as many as the place of the lowest digit that is set. Assumes nothing.
use Rattle.base_bits.proofs.Members.{first-trailing}
use Rattle.base_bits.proofs.first.Goals as goal

pub returns : goal.returns
returns c = first-trailing c.args.set
