-- `proposal_marks::marks::marks_subgraph` meets its contract. Assumes nothing.
use Rattle.base_lists.specs.Kit.{◌∙◌, sym, arith}
use Rattle.proposal_marks.proofs.Subgraph.{nodes-not, links-not, centre-not, ends-left}
use Rattle.proposal_marks.proofs.marks.marks_subgraph.Goals as goal

pub returns-then-not-bits : goal.returns-then-not-bits
returns-then-not-bits c = λ kinds. nodes-not _ _ _ _ (sym c.bits.ensures ∙ c.if-not-bits.true)

pub returns-then-not-bits-2 : goal.returns-then-not-bits-2
returns-then-not-bits-2 c = λ kinds. links-not _ _ _ _ (sym c.bits.ensures ∙ c.if-not-bits.false) (sym c.bits-2.ensures ∙ c.if-not-bits-2.true)

pub returns-then-nodes-centre-ne1 : goal.returns-then-nodes-centre-ne1
returns-then-nodes-centre-ne1 c = λ kinds. centre-not _ _ _ _ (sym c.bits.ensures ∙ c.if-not-bits.false) (sym c.bits-2.ensures ∙ c.if-not-bits-2.false) (omega (arith, c.if-nodes-centre-ne1.true))

pub returns : goal.returns
returns c = λ kinds. c.ends_marked.ensures ∙ ends-left _ _ _ _ (sym c.bits.ensures ∙ c.if-not-bits.false) (sym c.bits-2.ensures ∙ c.if-not-bits-2.false) (omega (arith, c.if-nodes-centre-ne1.false))
