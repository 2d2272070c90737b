-- `graph_radius::first_spanning` meets its contract. The loop's invariant: the first table has the balls at radius k, and at no smaller
-- radius has every ball every node. The measure is how many radii are left. Assumes nothing.
use Rattle.std.specs.Prelude.{◌≡◌, ◌≤◌, ◌+◌, ◌-◌}
use Rattle.base_lists.specs.Kit.{length}
use Rattle.graph_radius.specs.Balls.{every_node}
use Rattle.graph_radius.proofs.Spanning.{Reached}
use Rattle.graph_radius.proofs.first_spanning.Given as goal

abbrev pub invariant-loop-k : goal.invariant-loop-k
invariant-loop-k l =
    (l.k ≤ l.n + 2) × (length l.old ≡ length l.initial.old) × (length l.new ≡ length l.initial.new) × (l.full ≡ every_node (length l.near)) × Reached l.near l.initial.old l.old l.k

abbrev pub decreases-loop-k : goal.decreases-loop-k
decreases-loop-k l = l.n + 2 - l.k
