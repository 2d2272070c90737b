-- `table_round::write` meets its contract: what is left to write leads to the whole table, and `kept` is how many pairs the table has.
-- Assumes nothing.
use Rattle.std.specs.Prelude.{◌≡◌, ◌<◌, ◌⊎◌}
use Rattle.std.specs.Iterator.Adapters.{zip_first, zip_second}
use Rattle.std.specs.Slice.Iter.{iter_rest}
use Rattle.base_lists.specs.Kit.{⊎_map, length, arith, rules}
use Rattle.base_bits.proofs.Counts.{size-le}
use Rattle.table_round.proofs.Pending.{putting_node, putting-next, putting-end}
use Rattle.table.proofs.Pairs.{pairs-at, pairs-le}
use Rattle.table_round.proofs.write.Goals as goal
use Rattle.table_round.proofs.write.Goals.{In-Some}

pub loop-node-init : goal.loop-node-init
loop-node-init c =
    let first : iter_rest (zip_first c.into_iter-node-iterator.result) ≡ c.args.nodes.now = search rules in
    let second : iter_rest (zip_second c.into_iter-node-iterator.result) ≡ c.args.sets.now = search rules in
    record { below = rw first c.requires.sets_len.1; table = rw (first, second); size = c.requires.started_value }

-- the next node
node : (c : In-Some) → c.in-Some.field-0-0.now < length c.loop-node.table
node c = putting_node c.loop-node.invariant c.in-Some.ensures.steps.0 c.in-Some.ensures.steps.1

pub bounds-table-v : goal.bounds-table-v
bounds-table-v c = node (goal.at.bounds-table-v c).In-Some

pub overflow_sub-kept : goal.overflow_sub-kept
overflow_sub-kept c =
    omega (arith, c.loop-node.invariant.size, c.size.ensures, pairs-at c.loop-node.table _ (node (goal.at.overflow_sub-kept c).In-Some))

pub overflow_add-kept : goal.overflow_add-kept
overflow_add-kept c =
    omega
    (arith, c.loop-node.invariant.size, c.loop-node.auto.table, c.requires.table_len_bound, pairs-le c.loop-node.table, size-le c.in-Some.field-0-1.now, c.size-in-loop-node.ensures)

pub bounds-table-v-in-loop-node : goal.bounds-table-v-in-loop-node
bounds-table-v-in-loop-node c = node (goal.at.bounds-table-v-in-loop-node c).In-Some

pub loop-node-preserved : goal.loop-node-preserved
loop-node-preserved c =
    putting-next c.loop-node.invariant c.in-Some.ensures.steps.0 c.in-Some.ensures.steps.1 c.size.ensures c.size-in-loop-node.ensures

pub returns : goal.returns
returns c =
    let none : (length (iter_rest (zip_first c.loop-node.node-iterator)) ≡ 0) ⊎ (length (iter_rest (zip_second c.loop-node.node-iterator)) ≡ 0) =
    ⊎_map (λ h. h.1.0) (λ h. h.1.0) c.in-None.ensures.steps in
    putting-end c.loop-node.invariant none
