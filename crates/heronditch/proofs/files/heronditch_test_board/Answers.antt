-- `heronditch::files::heronditch_test_board` meets its contract: the call of the crate below, its reply as numbers.
-- Assumes nothing.
use Rattle.base_lists.specs.Kit.{ap}
use Rattle.heronditch.specs.Host.{host_test_board}
use Rattle.heronditch.proofs.files.heronditch_test_board.Goals as goal

pub returns : goal.returns
unfolding host_test_board
returns c =
    rw c.of_number.ensures (ap host_test_board c.test_board.ensures)
