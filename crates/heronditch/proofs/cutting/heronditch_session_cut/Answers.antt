-- `heronditch::cutting::heronditch_session_cut` meets its contract: the call of the crate below, its answer as numbers.
-- Assumes nothing.
use Rattle.heronditch.proofs.Session.{host-cut}
use Rattle.heronditch.proofs.cutting.heronditch_session_cut.Goals as goal

pub returns : goal.returns
returns c = host-cut c.cut.ensures c.of_verdict.ensures
