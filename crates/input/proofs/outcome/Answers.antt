use Rattle.input.proofs.Reading.{ended_tells}
use Rattle.input.proofs.outcome.Goals as goal

pub returns : goal.returns
returns c = rw c.ended.ensures (ended_tells _ _ _ c.if-size-room.false)
