-- `report_texts::known` meets its contract. Assumes nothing.
use Rattle.std.specs.Prelude.{◌+◌}
use Rattle.base_lists.specs.Kit.{arith}
use Rattle.report_texts.proofs.known.Goals as goal

pub returns-then-not-all : goal.returns-then-not-all
returns-then-not-all c = rw (c.if-not-all.true)

pub overflow_cast-from : goal.overflow_cast-from
overflow_cast-from c = omega (arith, c.type_inv.texts c.args.number)

pub overflow_cast-to : goal.overflow_cast-to
overflow_cast-to c = omega (arith, c.type_inv.texts (512 + c.args.number))

pub returns : goal.returns
returns c = rw (c.if-not-all.false)
