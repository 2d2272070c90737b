-- `proposal_marks::marks::ends_marked` meets its contract: the links passed have both ends marked, where they are marked. Assumes nothing.
use Rattle.base_lists.specs.Kit.{◌∙◌, sym, arith, rules}
use Rattle.base_lists.specs.List.{Below}
use Rattle.proposal_marks.proofs.Tests.{ends-true, ends-false}
use Rattle.proposal_marks.proofs.marks.ends_marked.Goals as goal

pub both_marked-requires : goal.both_marked-requires
unfolding Below
both_marked-requires c = (c.requires.below.0 c.loop-i.i (omega (arith, c.requires.link_bytes_len.0)), c.requires.below.1 c.loop-i.i (omega (arith, c.requires.link_bytes_len.1)))

pub returns-then-not-both_marked : goal.returns-then-not-both_marked
returns-then-not-both_marked c = ends-false _ _ _ _ c.loop-i.i (search rules) c.if-byte-eq1.true (sym c.both_marked.ensures ∙ c.if-not-both_marked.true)

pub returns : goal.returns
returns c = ends-true _ _ _ _ (λ k h. c.loop-i.invariant k (omega arith))
