-- `graph_search::advance` meets its contract. The loop's invariant: the search has gone on (proofs/Going) to the state that the tables stand for. The measure is how
-- many levels and how many nodes are left. Assumes nothing.
use Rattle.std.specs.Prelude.{◌+◌, ◌-◌}
use Rattle.base_lists.specs.Kit.{length}
use Rattle.graph.specs.Bfs.{adjacent, state_of}
use Rattle.graph_search.proofs.Going.{Going}
use Rattle.graph_search.proofs.advance.Given as goal

abbrev pub invariant-loop-tail : goal.invariant-loop-tail
invariant-loop-tail l =
    Going (adjacent l.offsets l.targets) l.r (length l.initial.dist) (length l.initial.queue)
    (record { looked = l.initial.looked; level = l.initial.level; tail = l.initial.tail; depth = l.initial.depth }) (state_of l.initial.dist l.initial.queue l.initial.tail)
    l.dist l.queue (record { looked = l.looked; level = l.level; tail = l.tail; depth = l.depth })

abbrev pub decreases-loop-tail : goal.decreases-loop-tail
decreases-loop-tail l = (l.r - l.depth) + (length l.initial.dist - l.looked)
