-- `heronditch::cutting::heronditch_session_table` meets its contract: the call of the crate below, its answer as
-- numbers. Assumes nothing.
use Rattle.heronditch.proofs.Session.{host-table}
use Rattle.heronditch.proofs.cutting.heronditch_session_table.Goals as goal

pub returns : goal.returns
returns c = host-table c.read_out.ensures c.of_number.ensures
