-- Laws of the lookup. Assumes nothing.
use Rattle.std.specs.Prelude.{◌≡◌, ◌<◌, ◌+◌}
use Rattle.base_lists.specs.Kit.{ap, List, ℕ, suc, add-one, get_or}
use Rattle.base_lists.specs.List.{Below}
use Rattle.graph.specs.Net.{Net}
use Rattle.graph.proofs.Net.{driven-below, driving-below}
use Rattle.graph_neighbours.specs.Lookup.{neighbours_in}
use Rattle.graph_neighbours.specs.declared.neighbours.Direction.{Direction}
use Rattle.graph_neighbours.specs.declared.neighbours.Direction.TheVariants.{Forward, Backward}

-- a node's neighbours in either direction are nodes
pub neighbours-below : (direction : Direction) {n : ℕ} {offsets targets : List ℕ} → Net n offsets targets → (v : ℕ) → v < n → Below n (neighbours_in direction offsets targets v)
unfolding neighbours_in
neighbours-below Forward t v h = driven-below t v h
neighbours-below Backward t v h = driving-below t v h

-- the offset at v + 1, as the code has it, is that at `suc v`
pub next-is : (os : List ℕ) (v : ℕ) → get_or os (v + 1) 0 ≡ get_or os (suc v) 0
next-is os v = ap (λ (i : ℕ). get_or os i 0) (add-one v)
