-- `graph::marked::choose` meets its contract: the chosen ones of the entries passed stand in front. Assumes nothing.
use Rattle.graph.proofs.Choosing.{ChosenTo}
use Rattle.graph.proofs.marked.choose.Given as goal

abbrev pub invariant-loop-i : goal.invariant-loop-i
invariant-loop-i l = ChosenTo l.marks l.initial.xs l.i l.k l.xs
