-- `bounded_layer::pass::pass` meets its contract. The loop's invariant: the first v sets are what is left, and the others as they were. Assumes nothing.
use Rattle.std.specs.Prelude.{◌≡◌, ◌++◌}
use Rattle.base_lists.specs.Kit.{List, ℕ, get_or, drop}
use Rattle.base_lists.specs.List.{tabulate}
use Rattle.base_bits.specs.Bits.{union_at}
use Rattle.graph_neighbours.specs.Lookup.{neighbours_in}
use Rattle.bounded_layer.specs.Pass.{kept_within}
use Rattle.bounded_layer.proofs.pass.pass.Given as goal

-- what is left at node v
unfoldable pub left : (ℕ → List ℕ) → List ℕ → List ℕ → List ℕ → ℕ → ℕ
left near masks layer new v = kept_within masks (union_at layer (near v)) (get_or new v 0)

abbrev pub invariant-loop-v : goal.invariant-loop-v
invariant-loop-v l =
    l.new ≡ tabulate l.v (left (neighbours_in l.direction l.offsets l.targets) l.masks l.layer l.initial.new) ++ drop l.v l.initial.new
