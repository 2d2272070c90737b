-- `heronditch::cutting::heronditch_session_open` meets its contract: the call of the crate below, its answer as
-- numbers. Assumes nothing.
use Rattle.heronditch.proofs.Session.{host-open}
use Rattle.heronditch.proofs.cutting.heronditch_session_open.Goals as goal

pub returns : goal.returns
returns c =
    rw (← c.editions_of.ensures.0, ← c.editions_of.ensures.1)
    (host-open _ c.open.ensures c.of_verdict.ensures)
