-- When going on from a table node by node (Moves: `settled`) leads to the row's last table: the table is one to begin with, masks and moves are a
-- pattern's and a board's, and each node that changes is marked.
use Rattle.std.specs.Prelude.{◌≡◌, ◌↔◌, ◌≤◌, ◌<◌}
use Rattle.base_lists.specs.Kit.{false, List, ℕ, length, get_or}
use Rattle.base_lists.specs.List.{Occurs, Below}
use Rattle.graph.specs.Circuit.{Circuit}
use Rattle.simulation.specs.Simulation.{Direction}
use Rattle.table.specs.Prepared.{Masked}
use Rattle.table.specs.Row.{neighbours}
use Rattle.session_strike.specs.Moves.{next_set_at, node_marked}

-- The masks are those of a pattern, and the moves lead where the links of a board lead. What a move has beside nodes does not matter.
pub record MovesFollow (pattern host : Circuit) (masks : List ℕ) (moves : Direction → ℕ → List ℕ) : Type 0 where
  pub parts : length pattern.labels ≤ 32
  pub starts : Below (length pattern.labels) pattern.starts
  pub ends : Below (length pattern.labels) pattern.ends
  pub masked : Masked pattern.starts pattern.ends masks
  pub leads :
      (d : Direction) (v w : ℕ) → v < length host.labels → w < length host.labels →
      Occurs (moves d v) w ↔ Occurs (neighbours host d v) w

-- a node that is not marked keeps its set
unfoldable pub UnmarkedKept : List ℕ → (Direction → ℕ → List ℕ) → List ℕ → List ℕ → Type 0
UnmarkedKept masks moves old marks = (v : ℕ) → v < length old → node_marked marks v ≡ false → next_set_at masks moves old v ≡ get_or old v 0
