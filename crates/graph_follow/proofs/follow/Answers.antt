-- `graph_follow::follow` meets its contract. The loop's invariant: from the state that the tables stand for, the looks that are left
-- lead to the state that all of them lead to. Assumes nothing.
use Rattle.base_lists.specs.Kit.{◌∙◌, sym, refl, arith}
use Rattle.base_lists.specs.List.{Below}
use Rattle.graph_follow.proofs.Following.{follow-next, follow-end}
use Rattle.graph_follow.proofs.follow.Goals as goal

pub loop-v-init : goal.loop-v-init
loop-v-init c = (c.requires.searching, refl)

pub look-tail-requires : goal.look-tail-requires
unfolding Below
look-tail-requires c =
    record {
      searching = c.loop-v.invariant.0;
      v_in_bounds = rw c.loop-v.auto.dist (c.requires.below c.loop-v.v-index (omega arith));
      sets_len = c.requires.sets_len ∙ sym c.loop-v.auto.dist;
      d_lt_far = c.requires.d_lt_far;
    }

pub loop-v-preserved : goal.loop-v-preserved
loop-v-preserved c = (
  c.look-tail.ensures.kept,
  follow-next c.args.set c.args.sets.now c.args.d _ _ c.args.part.now c.loop-v.v-index (omega arith) c.look-tail.ensures.state ∙ c.loop-v.invariant.1,
)

pub returns : goal.returns
returns c =
    record { state = sym (follow-end c.args.set c.args.sets.now c.args.d _ c.args.part.now c.loop-v.v-index (omega arith)) ∙ c.loop-v.invariant.1; kept = c.loop-v.invariant.0 }
