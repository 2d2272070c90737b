-- `call_decide::tables_fit` meets its contract: the first table that is too short decides, or none is. Assumes nothing.
use Rattle.base_lists.specs.Kit.{le-ltb, lt-ltb}
use Rattle.file_format.specs.Refusals.{first, short_table}
use Rattle.call_decide.specs.Decide.{room_conditions}
use Rattle.call_decide.proofs.tables_fit.Goals as goal

pub returns-then-lent-n : goal.returns-then-lent-n
unfolding room_conditions first short_table
returns-then-lent-n c = simp (lt-ltb _ _ c.if-lent-n.true)

pub returns-then-lent-m : goal.returns-then-lent-m
unfolding room_conditions first short_table
returns-then-lent-m c = simp (le-ltb _ _ c.if-lent-n.false, lt-ltb _ _ c.if-lent-m.true)

pub returns-then-lent-n-2 : goal.returns-then-lent-n-2
unfolding room_conditions first short_table
returns-then-lent-n-2 c = simp (le-ltb _ _ c.if-lent-n.false, le-ltb _ _ c.if-lent-m.false, lt-ltb _ _ c.if-lent-n-2.true)

pub returns-then-lent-n-3 : goal.returns-then-lent-n-3
unfolding room_conditions first short_table
returns-then-lent-n-3 c = simp (le-ltb _ _ c.if-lent-n.false, le-ltb _ _ c.if-lent-m.false, le-ltb _ _ c.if-lent-n-2.false, lt-ltb _ _ c.if-lent-n-3.true)

pub returns : goal.returns
unfolding room_conditions first short_table
returns c = simp (le-ltb _ _ c.if-lent-n.false, le-ltb _ _ c.if-lent-m.false, le-ltb _ _ c.if-lent-n-2.false, le-ltb _ _ c.if-lent-n-3.false)
