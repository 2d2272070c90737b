-- `graph_follow::list_beside` meets its contract. The loop's invariant: from the state that the tables stand for, the nodes that are left lead to the
-- state that all of them lead to. Assumes nothing.
use Rattle.std.specs.Prelude.{◌≡◌}
use Rattle.base_lists.specs.Kit.{drop}
use Rattle.graph.specs.Bfs.{level, state_of, Searching}
use Rattle.graph_follow.specs.Follow.{nodes_beside}
use Rattle.graph_follow.proofs.list_beside.Given as goal

abbrev pub invariant-loop-v : goal.invariant-loop-v
invariant-loop-v l =
    Searching l.marks l.todo l.tail
    × (level (nodes_beside l.offsets l.targets l.sets) 0 (state_of l.marks l.todo l.tail) (drop l.v-index l.changed) ≡ level (nodes_beside l.offsets l.targets l.sets) 0 (state_of l.initial.marks l.initial.todo 0) l.changed)
