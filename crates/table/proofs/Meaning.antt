-- The last table of the row is the largest closed set and, for a connected pattern, the largest dual simulation. Assumes nothing.
use Rattle.std.specs.Prelude.{◌≤◌}
use Rattle.base_lists.specs.Kit.{List, ℕ, length}
use Rattle.graph.specs.Circuit.{Circuit, circuit_graph}
use Rattle.graph.specs.Graph.{Connected}
use Rattle.simulation.specs.Closed.{◌⊆◌, LargestClosed}
use Rattle.simulation.specs.Simulation.{Largest}
use Rattle.simulation.proofs.Simulation.{largest-iff-closed}
use Rattle.table_row.specs.Reading.{InTable}
use Rattle.table_row.proofs.Meaning as Of
use Rattle.table.specs.Host.{host_graph, KindsMatch}
use Rattle.table.specs.Row.{problem_by, problem_of, last_table}
use Rattle.table.proofs.Row.{Table, Candidates, Steps, Moves, agreeing-iff, reading}

module _ (pattern host : Circuit) (taken : List ℕ) where
  -- the table has a number per node, of as many bits as the pattern has parts
  pub last_fits : Table pattern host (last_table pattern host taken)
  unfolding problem_by
  last_fits = Of.last_fits (problem_of pattern host taken)

  -- its pairs are of a part and a node of H with equal kinds
  pub last-candidate : InTable (last_table pattern host taken) ⊆ Candidates pattern host taken
  last-candidate u v m = (agreeing-iff pattern host taken u v).0 (Of.last-agrees (problem_of pattern host taken) u v m)

module _ (pattern host : Circuit) (taken : List ℕ) (most : length pattern.labels ≤ 32) where
  pub last-closed : LargestClosed (Candidates pattern host taken) (Steps pattern) (Moves host taken) (InTable (last_table pattern host taken))
  unfolding problem_by
  last-closed = Of.last-closed (problem_of pattern host taken) most (reading pattern host taken)

  -- "The last set of this row is the largest dual simulation."
  pub last-largest :
      Connected (circuit_graph pattern) →
      Largest (circuit_graph pattern) (KindsMatch pattern host) (host_graph host taken) (InTable (last_table pattern host taken))
  last-largest connected = (largest-iff-closed connected).0 last-closed
