-- `session_strike::strike_marked` meets its contract. The loop's invariant is `Going`; the measure falls with a set that gets smaller, or with a mark that is taken
-- away. Assumes nothing.
use Rattle.session_strike.specs.Moves.{moves_in, left}
use Rattle.session_strike.proofs.Going.{Going}
use Rattle.session_strike.proofs.strike_marked.Given as goal

abbrev pub invariant-loop-j : goal.invariant-loop-j
invariant-loop-j l = Going l.masks (moves_in l.offsets l.numbers l.ends) l.initial.sets l.initial.marks l.sets l.marks

abbrev pub decreases-loop-j : goal.decreases-loop-j
decreases-loop-j l = left l.sets l.marks
