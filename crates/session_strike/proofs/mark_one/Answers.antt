-- `session_strike::mark_one` meets its contract. Assumes nothing.
use Rattle.base_lists.specs.Kit.{le-ltb, lt-ltb}
use Rattle.session_strike.specs.Moves.{mark_one}
use Rattle.session_strike.proofs.mark_one.Goals as goal

pub returns-then-w-n : goal.returns-then-w-n
unfolding mark_one
returns-then-w-n c =
    rw (lt-ltb _ _ c.if-w-n.true) c.mark.ensures

pub returns-else-w-n : goal.returns-else-w-n
unfolding mark_one
returns-else-w-n c = rw (le-ltb _ _ c.if-w-n.false)
