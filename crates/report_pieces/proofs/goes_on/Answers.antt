-- `report_pieces::goes_on` meets its contract: both tests, one after the other. Assumes nothing.
use Rattle.base_lists.specs.Kit.{le-ltb, lt-ltb}
use Rattle.report_pieces.proofs.goes_on.Goals as goal

pub returns-then-n-c : goal.returns-then-n-c
returns-then-n-c c = rw (le-ltb c.args.c c.args.n c.if-n-c.true)

pub returns : goal.returns
returns c = rw (lt-ltb c.args.c c.args.n c.if-n-c.false) c.roomy.ensures
