-- The neighbour lookup: "The neighbour lookup, told a direction, hands out that stretch of the one table or the other."
use Rattle.base_lists.specs.Kit.{List, ℕ}
use Rattle.graph.specs.Neighbours.{stretch}
use Rattle.graph.specs.Net.{driven, driving}
use Rattle.graph_neighbours.specs.declared.neighbours.Direction.{Direction}
use Rattle.graph_neighbours.specs.declared.neighbours.Direction.TheVariants.{Forward, Backward}

-- what node v drives, from the forward offsets and table, or what drives it, from the backward ones
abbrev pub neighbours_of : Direction → List ℕ → List ℕ → List ℕ → List ℕ → ℕ → List ℕ
neighbours_of Forward fo ft bo bt v = stretch fo ft v
neighbours_of Backward fo ft bo bt v = stretch bo bt v

-- the same of tables that are handed on as two lists
unfoldable pub neighbours_in : Direction → List ℕ → List ℕ → ℕ → List ℕ
neighbours_in Forward offsets targets v = driven offsets targets v
neighbours_in Backward offsets targets v = driving offsets targets v
