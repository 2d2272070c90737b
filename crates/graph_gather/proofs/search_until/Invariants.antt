-- `graph_gather::search_until` meets its contract. The loop's invariant: the search has gone on from the centre (graph_search/proofs/Going) to the state that the
-- tables stand for, and so many of the nodes reached have the number. The measure is how many nodes are not reached. Assumes nothing.
use Rattle.std.specs.Prelude.{◌≡◌, ◌-◌}
use Rattle.base_lists.specs.Kit.{length, take}
use Rattle.graph.specs.Bfs.{start, adjacent}
use Rattle.graph_search.proofs.Onward.{centre}
use Rattle.graph_search.proofs.Going.{Going}
use Rattle.graph_gather.specs.Having.{having, numbered}
use Rattle.graph_gather.proofs.search_until.Given as goal

abbrev pub invariant-loop-count : goal.invariant-loop-count
invariant-loop-count l =
    Going (adjacent l.offsets l.targets) l.r (length l.numbers) (length l.numbers) centre (start (length l.numbers) l.c) l.dist l.queue l.from
    × (l.count ≡ length (having (numbered l.numbers l.x) (take l.from.tail l.queue)))

abbrev pub decreases-loop-count : goal.decreases-loop-count
decreases-loop-count l = length l.numbers - l.from.tail
