-- `proposal_marks::marks::in_row` meets its contract: the nodes passed were reached, where they are marked. Assumes nothing.
use Rattle.base_lists.specs.Kit.{arith, rules}
use Rattle.proposal_marks.proofs.Tests.{row-true, row-false}
use Rattle.proposal_marks.proofs.marks.in_row.Goals as goal

pub returns-then-dist-v : goal.returns-then-dist-v
returns-then-dist-v c = row-false _ _ c.requires c.loop-v.v (search rules) (λ f. f c.if-byte-eq1.true c.if-dist-v.true)

pub returns : goal.returns
returns c = row-true _ _ c.requires (λ k h. c.loop-v.invariant k (omega arith))
