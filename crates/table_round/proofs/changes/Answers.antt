-- `table_round::changes` meets its contract. The loop's invariant: what is listed, with what is left of the list, leads to the whole.
-- Assumes nothing.
use Rattle.std.specs.Prelude.{◌<◌}
use Rattle.base_lists.specs.Kit.{refl, length, get_or, arith}
use Rattle.base_lists.specs.List.{Below}
use Rattle.table_round.proofs.Pending.{listing_start, listing-next, listing-end}
use Rattle.table_round.proofs.changes.Goals as goal
use Rattle.table_round.proofs.changes.Goals.{In-loop-node}

pub loop-node-init : goal.loop-node-init
loop-node-init c = listing_start _ _ _ _ _

-- the next node
node : (c : In-loop-node) → get_or c.args.todo.now c.loop-node.node-index 0 < length c.args.old.now
unfolding Below
node c = c.requires.below c.loop-node.node-index (omega arith)

pub strike_node-set-requires : goal.strike_node-set-requires
strike_node-set-requires c = record {
  one_way_value = c.requires.one_way_value;
  ready = c.requires.ready;
  v_in_bounds = node (goal.at.strike_node-set-requires c).In-loop-node;
}

pub offset_bounds-old-v : goal.offset_bounds-old-v
offset_bounds-old-v c = omega (arith, node (goal.at.offset_bounds-old-v c).In-loop-node, c.type_inv.todo c.loop-node.node-index)

pub bounds-old-v : goal.bounds-old-v
bounds-old-v c = node (goal.at.bounds-old-v c).In-loop-node

pub note_change-k-requires : goal.note_change-k-requires
note_change-k-requires c =
    (omega (arith, c.loop-node.auto.changed, c.requires.todo_in_bounds.0, c.loop-node.invariant.few), omega (arith, c.loop-node.auto.next, c.requires.todo_in_bounds.1, c.loop-node.invariant.few))

pub loop-node-preserved : goal.loop-node-preserved
loop-node-preserved c =
    listing-next _ _ c.loop-node.invariant (omega arith) (omega (arith, c.loop-node.auto.changed, c.requires.todo_in_bounds.0, c.loop-node.invariant.few))
    (omega (arith, c.loop-node.auto.next, c.requires.todo_in_bounds.1, c.loop-node.invariant.few)) refl c.strike_node-set.ensures refl c.note_change-k.ensures

pub returns : goal.returns
returns c = listing-end _ _ c.loop-node.invariant (omega arith)
