-- `bounded_layer::layer::widen` meets its contract. The loop's invariant: the first v sets are those of the next layer, and the others as they
-- were. Assumes nothing.
use Rattle.std.specs.Prelude.{◌≡◌, ◌++◌}
use Rattle.base_lists.specs.Kit.{List, ℕ, get_or, drop}
use lib.Bits.{bit_or}
use Rattle.base_lists.specs.List.{tabulate}
use Rattle.base_bits.specs.Bits.{union_at}
use Rattle.graph_neighbours.specs.Lookup.{neighbours_in}
use Rattle.bounded_layer.proofs.layer.widen.Given as goal

-- what node v has in the next layer
unfoldable pub further : (ℕ → List ℕ) → List ℕ → List ℕ → ℕ → ℕ
further near old layer v = bit_or (get_or old v 0) (union_at layer (near v))

abbrev pub invariant-loop-v : goal.invariant-loop-v
invariant-loop-v l =
    l.next ≡ tabulate l.v (further (neighbours_in l.direction l.offsets l.targets) l.old l.layer) ++ drop l.v l.initial.next
