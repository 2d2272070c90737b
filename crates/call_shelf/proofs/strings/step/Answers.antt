-- `call_shelf::strings::step` meets its contract. Assumes nothing.
use Rattle.std.specs.Prelude.{◌+◌}
use Rattle.base_lists.specs.Kit.{arith, le-leb, lt-leb}
use Rattle.call_shelf.specs.Strings.{capped}
use Rattle.call_shelf.proofs.strings.step.Goals as goal

pub returns-then-size-end : goal.returns-then-size-end
unfolding capped
returns-then-size-end c =
    (rw (le-leb (c.args.at + c.args.size) c.args.end (omega arith)), omega arith, omega arith)

pub returns : goal.returns
unfolding capped
returns c =
    (rw (lt-leb (c.args.at + c.args.size) c.args.end (omega arith)), omega arith, omega arith)
