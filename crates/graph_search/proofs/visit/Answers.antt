-- `graph_search::visit` meets its contract, by the laws of a visit. Assumes nothing.
use Rattle.graph.proofs.BfsSteps.{queue-room, visited-new, visited-old}
use Rattle.graph_search.proofs.visit.Goals as goal

pub bounds-queue-tail : goal.bounds-queue-tail
bounds-queue-tail c =
    queue-room c.args.dist.now c.args.queue.now c.args.tail c.requires.searching c.args.v c.requires.v_in_bounds c.if-dist-i.true

pub returns-then-dist-i : goal.returns-then-dist-i
returns-then-dist-i c =
    visited-new c.args.dist.now c.args.queue.now c.args.tail c.requires.searching c.args.v c.args.d c.requires.v_in_bounds c.requires.d_lt_far c.if-dist-i.true

pub returns-else-dist-i : goal.returns-else-dist-i
returns-else-dist-i c =
    visited-old c.args.dist.now c.args.queue.now c.args.tail c.requires.searching c.args.v c.args.d c.if-dist-i.false
