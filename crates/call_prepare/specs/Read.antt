-- Two files that were read for a search, with what it looks up.
use Rattle.std.specs.Prelude.{List, ◌≡◌, ℕ, ◌≤◌, T, length, take, Result, Ok}
use Rattle.graph.specs.Search.{radius}
use Rattle.simulation.specs.Simulation.{Direction}
use Rattle.file_format.specs.declared.Refusal.{Refusal}
use Rattle.file_format.specs.declared.Role.{Role}
use Rattle.file_format.specs.declared.Role.TheVariants.{Pattern}
use Rattle.file_format.specs.Circuit.{circuit_of, Drawn}
use Rattle.file_format.specs.Layout.{CircuitFile, nodes_of, labels_of, starts_of, ends_of}
use Rattle.file_format.specs.Reply.{verdict_of}
use Rattle.file_format.specs.Refusals.{first, asks_connected}
use Rattle.file_format.specs.Role.{max_nodes, max_links}
use Rattle.file_pair.specs.declared.Pair.{Pair}
use Rattle.file_pair.specs.Pair.{pair_conditions}
use Rattle.table.specs.Prepared.{Tables, PreparedBy}

-- the labels of a file stand at the front of a table, n of them
pub record LabelsStand (file : CircuitFile) (n : ℕ) (kinds : List ℕ) : Type 0 where
  pub room : n ≤ length kinds
  pub content : take n kinds ≡ labels_of file

-- a role that patterns are read in: its maxima are a pattern's
pub record AsPattern (r : Role) : Type 0 where
  pub nodes : max_nodes r ≡ max_nodes Pattern
  pub links : max_links r ≡ max_links Pattern

-- Both files are accepted, their labels stand in the tables, their links are prepared along the directions that count,
-- and the radius of a pattern that is connected is known.
pub record BothPrepared (r : Role) (ways : List Direction) (pattern board : CircuitFile) (read : Pair) (part_labels nodeLabels : List ℕ) (t : Tables) : Type 0 where
  pub parts : LabelsStand pattern read.parts part_labels
  pub nodes : LabelsStand board read.nodes nodeLabels
  pub measured : T (asks_connected r) → read.radius ≡ radius (nodes_of pattern) (starts_of pattern) (ends_of pattern)
  pub drawn : Drawn (circuit_of pattern) (circuit_of board)
  pub prepared : PreparedBy ways (circuit_of pattern) (circuit_of board) t

-- the two files were read: the verdict is that of the first condition on them that holds
pub record PairPrepared (r : Role) (ways : List Direction) (pattern board : CircuitFile) (read : Result Pair Refusal) (part_labels nodeLabels : List ℕ) (t : Tables) : Type 0 where
  pub verdict : verdict_of read ≡ first (pair_conditions r pattern board)
  pub both : (pair : Pair) → read ≡ Ok pair → BothPrepared r ways pattern board pair part_labels nodeLabels t
