-- `graph_gather::count_equal` meets its contract: one more exactly where the number is x. Assumes nothing.
use Rattle.base_lists.specs.Kit.{arith, eq-eqb, ne_eqb}
use Rattle.graph_gather.proofs.count_equal.Goals as goal

pub returns-then-number-x : goal.returns-then-number-x
returns-then-number-x c = rw (eq-eqb c.args.number c.args.x c.if-number-x.true)

pub returns : goal.returns
returns c = rw (ne_eqb c.args.number c.args.x c.if-number-x.false) (omega arith)
