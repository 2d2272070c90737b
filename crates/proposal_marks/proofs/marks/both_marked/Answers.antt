-- `proposal_marks::marks::both_marked` meets its contract. Assumes nothing.
use Rattle.base_lists.specs.Kit.{eq-eqb, ne_eqb}
use Rattle.graph.specs.Search.{inside}
use Rattle.proposal_marks.proofs.marks.both_marked.Goals as goal

pub returns-then-nodes-i-eq1 : goal.returns-then-nodes-i-eq1
unfolding inside
returns-then-nodes-i-eq1 c = rw (eq-eqb _ 1 c.if-nodes-i-eq1.true)

pub returns : goal.returns
unfolding inside
returns c = rw (ne_eqb _ 1 c.if-nodes-i-eq1.false)
