-- `graph::marked::choose` meets its contract: the chosen ones of the entries passed stand in front. Assumes nothing.
use Rattle.base_lists.specs.Kit.{arith, rules}
use Rattle.graph.proofs.Choosing.{chosen_none, chosen-one, chosen-other, chosen-all}
use Rattle.graph.proofs.marked.choose.Goals as goal
use Rattle.graph.proofs.marked.choose.Goals.{else-mark-eq1, then-mark-eq1}

pub loop-i-init : goal.loop-i-init
loop-i-init c = chosen_none _ _

pub loop-i-preserved : goal.loop-i-preserved
loop-i-preserved c =
    elim c.if-mark-eq1.branch [ then-mark-eq1 w ↦ rw (w.xs-is, w.k-is) (chosen-one c.requires c.loop-i.invariant (search rules) (omega (arith, w.if-mark-eq1.true))) | else-mark-eq1 w ↦ rw (w.xs-is, w.k-is) (chosen-other c.requires c.loop-i.invariant (search rules) w.if-mark-eq1.false) ]

pub returns : goal.returns
returns c = (omega (arith, c.loop-i.invariant.behind, c.loop-i.invariant.within, c.loop-i.invariant.long, c.requires), chosen-all c.requires c.loop-i.invariant (search rules))
