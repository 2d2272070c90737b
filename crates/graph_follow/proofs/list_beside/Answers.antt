-- `graph_follow::list_beside` meets its contract. The loop's invariant: from the state that the tables stand for, the nodes that are left lead to the
-- state that all of them lead to. Assumes nothing.
use Rattle.std.specs.Prelude.{◌<◌}
use Rattle.base_lists.specs.Kit.{◌∙◌, sym, refl, length, get_or, arith}
use Rattle.base_lists.specs.List.{Below}
use Rattle.graph_follow.specs.Follow.{nodes_beside}
use Rattle.graph.proofs.BfsSteps.{level-next, level-end}
use Rattle.graph_follow.proofs.list_beside.Goals as goal
use Rattle.graph_follow.proofs.list_beside.Goals.{In-loop-v}

pub loop-v-init : goal.loop-v-init
loop-v-init c = (c.requires.searching, refl)

-- the next node
node : (c : In-loop-v) → get_or c.args.changed.now c.loop-v.v-index 0 < length c.args.sets.now
unfolding Below
node c = c.requires.below c.loop-v.v-index (omega arith)

pub wake_beside-tail-requires : goal.wake_beside-tail-requires
wake_beside-tail-requires c =
    record {
      searching = c.loop-v.invariant.0;
      net = c.requires.net;
      sets_len = c.requires.sets_len ∙ sym c.loop-v.auto.marks;
      v_in_bounds = node (goal.at.wake_beside-tail-requires c).In-loop-v;
    }

pub loop-v-preserved : goal.loop-v-preserved
loop-v-preserved c = (
  c.wake_beside-tail.ensures.kept,
  level-next (nodes_beside c.args.offsets.now c.args.targets.now c.args.sets.now) 0 _ _ c.args.changed.now c.loop-v.v-index _ (omega (arith, c.loop-v-test.true)) refl
      c.wake_beside-tail.ensures.state
      ∙ c.loop-v.invariant.1,
)

pub returns : goal.returns
returns c =
    record {
      state = sym (level-end (nodes_beside c.args.offsets.now c.args.targets.now c.args.sets.now) 0 _ c.args.changed.now c.loop-v.v-index (omega arith)) ∙ c.loop-v.invariant.1;
      kept = c.loop-v.invariant.0;
    }
