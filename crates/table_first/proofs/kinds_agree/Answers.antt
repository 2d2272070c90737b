-- `table_first::kinds_agree` meets its contract: the label that it tries first is that of any part of the node's package. Assumes nothing.
use Rattle.base_lists.specs.Kit.{sym, arith}
use Rattle.table.proofs.Agreement.{agree-any, agree-own}
use Rattle.table_first.proofs.kinds_agree.Goals as goal

pub overflow_mul-any : goal.overflow_mul-any
overflow_mul-any c = omega arith

pub returns-then-part-any : goal.returns-then-part-any
returns-then-part-any c = sym (agree-any c.args.part c.args.node c.if-part-any.true)

pub returns : goal.returns
returns c = sym (agree-own c.args.part c.args.node c.if-part-any.false)
