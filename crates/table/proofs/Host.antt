-- The graph H presented in different ways: a board is itself with every node taken, and the row depends on H alone. Assumes nothing.
use Rattle.std.specs.Prelude.{◌≤◌, ◌<◌}
use Rattle.base_lists.specs.Kit.{iff_rfl, ℕ, length}
use Rattle.base_lists.proofs.Tables.{get_d_tabulate}
use Rattle.graph.specs.Circuit.{Circuit, graph_of, circuit_graph}
use Rattle.graph.specs.Graph.{Connected}
use Rattle.graph.specs.Search.{inside}
use Rattle.graph.proofs.Ball.{Within}
use Rattle.simulation.specs.Simulation.{Largest}
use Rattle.simulation.specs.Perfect.{SameGraph}
use Rattle.simulation.specs.Quotient.{LinksJoin}
use Rattle.simulation.proofs.Same.{same_refl, largest-same}
use Rattle.table_row.specs.Reading.{InTable}
use Rattle.table.specs.Host.{Taken, host_graph, everything, KindsMatch}
use Rattle.table.specs.Row.{last_table}
use Rattle.table.proofs.Meaning.{last-largest}

-- ---- the whole board

-- the links of a circuit whose starts and ends are below N join its nodes
pub within-joins : (c : Circuit) → Within (length c.labels) c.starts c.ends → LinksJoin (circuit_graph c)
unfolding circuit_graph graph_of
within-joins c w = record { nodes = λ v n. n; links = λ v w l. l; starts = w.starts; ends = w.ends }

pub everything-taken : (c : Circuit) (v : ℕ) → v < length c.labels → Taken c (everything c) v
unfolding everything inside
everything-taken c v h = record { below = h; marked = rw (get_d_tabulate (length c.labels) (λ v. 1) v 0 h) tt }

-- with every node taken H is the board
pub everything-same : (c : Circuit) → LinksJoin (circuit_graph c) → SameGraph (host_graph c (everything c)) (circuit_graph c)
unfolding host_graph circuit_graph graph_of
everything-same c j =
    record {
      nodes = λ v. (λ t. t.below, everything-taken c v);
      links = λ v w. (λ l. l.0, λ l. (l, everything-taken c v (j.starts v w l), everything-taken c w (j.ends v w l)));
    }

-- so there the last table is the largest dual simulation in the board
pub board-largest :
    (pattern board : Circuit) → length pattern.labels ≤ 32 → Connected (circuit_graph pattern) → LinksJoin (circuit_graph board) →
    Largest (circuit_graph pattern) (KindsMatch pattern board) (circuit_graph board) (InTable (last_table pattern board (everything board)))
board-largest pattern board most connected j =
    largest-same (same_refl (circuit_graph pattern)) (everything-same board j) (record { agree = λ u v p n. iff_rfl })
    (last-largest pattern board (everything board) most connected)
