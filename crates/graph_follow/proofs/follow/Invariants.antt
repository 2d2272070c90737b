-- `graph_follow::follow` meets its contract. The loop's invariant: from the state that the tables stand for, the looks that are left
-- lead to the state that all of them lead to. Assumes nothing.
use Rattle.std.specs.Prelude.{◌≡◌}
use Rattle.base_lists.specs.Kit.{drop}
use Rattle.graph.specs.Bfs.{scan, state_of, Searching}
use Rattle.graph_follow.specs.Follow.{meeting}
use Rattle.graph_follow.proofs.follow.Given as goal

abbrev pub invariant-loop-v : goal.invariant-loop-v
invariant-loop-v l =
    Searching l.dist l.queue l.tail
    × (scan l.d (state_of l.dist l.queue l.tail) (meeting l.set l.sets (drop l.v-index l.part)) ≡ scan l.d (state_of l.initial.dist l.initial.queue l.from) (meeting l.set l.sets l.part))
