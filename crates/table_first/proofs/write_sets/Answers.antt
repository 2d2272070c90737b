-- `table_first::write_sets` meets its contract: the turns that are left lead to the whole table and the whole count. Assumes nothing.
use Rattle.base_lists.specs.Kit.{arith}
use Rattle.base_lists.specs.List.{Below}
use Rattle.base_bits.proofs.Counts.{size-le}
use Rattle.table_first.proofs.Filling.{filling-start, filling-next, filling-end, filled-written}
use Rattle.table_first.proofs.write_sets.Goals as goal

pub loop-node-init : goal.loop-node-init
loop-node-init g c = (omega arith, λ rule given. filling-start rule _ _)

pub bounds-table-v : goal.bounds-table-v
unfolding Below
bounds-table-v g c = rw (c.loop-node.auto.table, c.fill.auto.s) (c.requires.node_list.below c.loop-node.node-index (omega arith))

pub overflow_add-started : goal.overflow_add-started
overflow_add-started g c =
    omega (arith, c.loop-node.invariant.0, size-le c.set_of-set.result, c.size-started.ensures, c.requires.node_list.short)

pub loop-node-preserved : goal.loop-node-preserved
loop-node-preserved g c = (
  omega (arith, c.loop-node.invariant.0, size-le c.set_of-set.result, c.size-started.ensures),
  λ rule given. filling-next (c.loop-node.invariant.1 rule given) (omega arith) (given _ _ c.set_of-set.ensures) c.size-started.ensures,
)

pub returns : goal.returns
returns g c = λ rule given. filled-written c.fill.ensures c.requires.node_list (filling-end (c.loop-node.invariant.1 rule given) c.loop-node-test.false)
