-- `test_board::step` meets its contract: the sum of a product mod 2^32, mod 2^32, is that of the product. Assumes nothing.
use Rattle.base_lists.specs.Kit.{arith}
use Rattle.test_board.specs.Generator.{step}
use Rattle.test_board.proofs.step.Goals as goal

pub returns : goal.returns
unfolding step
returns c = omega arith
