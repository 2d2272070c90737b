-- `report_pieces::count_put` meets its contract: one more exactly where the offset has moved. Assumes nothing.
use Rattle.base_lists.specs.Kit.{arith, eq-eqb, ne_eqb}
use Rattle.report_pieces.proofs.count_put.Goals as goal

pub returns-then-next-at : goal.returns-then-next-at
returns-then-next-at c = rw (eq-eqb c.args.next c.args.at c.if-next-at.true) (omega arith)

pub returns : goal.returns
returns c = rw (ne_eqb c.args.next c.args.at c.if-next-at.false)
