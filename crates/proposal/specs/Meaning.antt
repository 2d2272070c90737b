-- What a yes means: "Given a pattern, a board, a centre, a byte per node and a byte per link, say yes exactly when these are a perfect subgraph
-- around the centre at the pattern's radius, largest or not. Bytes other than 0 and 1, or a link whose ends are not both marked, give no."
use Rattle.std.specs.Prelude.{◌≤◌, ◌<◌}
use Rattle.base_lists.specs.Kit.{List, ℕ, T, length, get_or}
use Rattle.graph.specs.Circuit.{Circuit, circuit_graph}
use Rattle.graph.specs.Search.{inside}
use Rattle.simulation.specs.Perfect.{Perfect}
use Rattle.table.specs.Host.{KindsMatch}
use Rattle.place.specs.Match.{marked_graph}

pub record PerfectMarks (pattern board : Circuit) (w r : ℕ) (nodes links : List ℕ) : Type 1 where
  pub bytes_of_nodes : (v : ℕ) → v < length nodes → get_or nodes v 0 ≤ 1
  pub bytes_of_links : (i : ℕ) → i < length links → get_or links i 0 ≤ 1
  pub ends : (i : ℕ) → T (inside links i) → T (inside nodes (get_or board.starts i 0)) × T (inside nodes (get_or board.ends i 0))
  pub perfect : Perfect (circuit_graph pattern) (KindsMatch pattern board) (circuit_graph board) w r (marked_graph board nodes links)
