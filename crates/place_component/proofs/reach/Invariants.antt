-- `place_component::reach` meets its contract. It begins with the state in which only the centre is reached. The loop's invariant: the search has gone on from there
-- (graph_search/proofs/Going) to the state that the tables stand for. The measure is how many levels and how many nodes are left. Assumes nothing.
use Rattle.std.specs.Prelude.{◌+◌, ◌-◌}
use Rattle.base_lists.specs.Kit.{length}
use Rattle.graph.specs.Bfs.{start}
use Rattle.graph_search.proofs.Onward.{centre}
use Rattle.graph_search.proofs.Going.{Going}
use Rattle.table.specs.Prepared.{tables}
use Rattle.place.specs.Spread.{matched}
use Rattle.place_component.proofs.reach.Given as goal

abbrev pub invariant-loop-tail : goal.invariant-loop-tail
invariant-loop-tail l =
    Going (matched (tables l.masks l.offsets l.targets) l.sets) l.r (length l.sets) (length l.sets) centre (start (length l.sets) l.c)
    l.dist l.queue (record { looked = l.looked; level = l.level; tail = l.tail; depth = l.depth })

abbrev pub decreases-loop-tail : goal.decreases-loop-tail
decreases-loop-tail l = (l.r - l.depth) + (length l.sets - l.looked)
