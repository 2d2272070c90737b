-- `graph_radius::singles` meets its contract. The loop's invariant: the sets before u are made, and the others as they were. Assumes nothing.
use Rattle.base_lists.specs.Kit.{arith}
use Rattle.base_lists.proofs.Tables.{filled_none, filled_more}
use Rattle.graph_radius.proofs.singles.Goals as goal

pub loop-u-init : goal.loop-u-init
loop-u-init c = filled_none _ _

pub loop-u-preserved : goal.loop-u-preserved
loop-u-preserved c = rw (c.loop-u.invariant, c.single.ensures) (filled_more _ _ _ (omega arith))
