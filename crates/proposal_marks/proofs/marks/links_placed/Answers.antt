-- `proposal_marks::marks::links_placed` meets its contract: the links passed are in the place. Assumes nothing.
use Rattle.base_lists.specs.Kit.{◌∙◌, sym, arith, rules}
use Rattle.base_lists.specs.List.{Below}
use Rattle.proposal_marks.proofs.Tests.{placed-true, placed-false}
use Rattle.proposal_marks.proofs.marks.links_placed.Goals as goal

pub link_placed-requires : goal.link_placed-requires
unfolding Below
link_placed-requires c = record {
  masks_len = c.requires.masks_len;
  v_in_bounds = (c.requires.below.0 c.loop-i.i (search rules), c.requires.below.1 c.loop-i.i (omega (arith, c.requires.starts_len)));
}

pub returns-then-not-link_placed : goal.returns-then-not-link_placed
returns-then-not-link_placed c = placed-false c.args.starts.now _ _ _ _ c.loop-i.i (search rules) (sym c.link_placed.ensures ∙ c.if-not-link_placed.true)

pub returns : goal.returns
returns c = placed-true c.args.starts.now _ _ _ _ (λ k h. c.loop-i.invariant k (omega arith))
