-- A pattern file and a board file, as a call on both reads them.
use Rattle.std.specs.Prelude.{List, ◌++◌, ◌≡◌, T, Result, Ok}
use Rattle.graph.specs.Circuit.{Circuit}
use Rattle.graph.specs.Search.{radius}
use Rattle.file_format.specs.declared.Refusal.{Refusal}
use Rattle.file_format.specs.declared.Role.{Role}
use Rattle.file_format.specs.declared.Role.TheVariants as role
use Rattle.file_format.specs.Layout.{CircuitFile, nodes_of, starts_of, ends_of}
use Rattle.file_format.specs.Reading.{Stands}
use Rattle.file_format.specs.Refusals.{Condition, accept, first, asks_connected, file_conditions}
use Rattle.file_format.specs.Reply.{verdict_of}
use Rattle.file_pair.specs.declared.Pair.{Pair}

-- "Rising numbers are the order, the pattern's 1 to 6 before the board's"; 11 comes "after it and before the board's
-- 1". The first file is read in the role told: as a pattern, or as any pattern, connected or not.
unfoldable pub pair_conditions : Role → CircuitFile → CircuitFile → List Condition
pair_conditions r pattern board = file_conditions r pattern ++ file_conditions role.Board board

-- both files are accepted, their circuits stand in the tables, and the radius of a pattern that is connected is known
pub record BothRead (r : Role) (pattern board : CircuitFile) (read : Pair) (parts nodes : Circuit) : Type 0 where
  pub verdict : first (pair_conditions r pattern board) ≡ accept
  pub drawn : Stands pattern read.parts read.joins parts
  pub given : Stands board read.nodes read.links nodes
  pub measured : T (asks_connected r) → read.radius ≡ radius (nodes_of pattern) (starts_of pattern) (ends_of pattern)

-- the two files were read: the verdict is that of the first condition on them that holds
pub record PairRead (r : Role) (pattern board : CircuitFile) (read : Result Pair Refusal) (parts nodes : Circuit) : Type 0 where
  pub verdict : verdict_of read ≡ first (pair_conditions r pattern board)
  pub both : (pair : Pair) → read ≡ Ok pair → BothRead r pattern board pair parts nodes
