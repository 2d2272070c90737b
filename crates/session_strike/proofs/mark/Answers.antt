-- `session_strike::mark` meets its contract. Assumes nothing.
use Rattle.session_strike.specs.Moves.{mark}
use Rattle.session_strike.proofs.mark.Goals as goal

pub returns : goal.returns
unfolding mark
returns c = rw c.single.ensures
