-- First tables: what striking may begin with, and how they are written at the nodes of a list.
use Rattle.std.specs.Prelude.{◌≡◌}
use Rattle.base_lists.specs.Kit.{List, ℕ, length, get_or}
use Rattle.base_bits.specs.Bits.{number_of}
use Rattle.graph.specs.Circuit.{Circuit}
use Rattle.table_row.specs.Reading.{Begins as BeginsOf}
use Rattle.table.specs.Fill.{table_at}
use Rattle.simulation.specs.Simulation.{Direction}
use Rattle.table.specs.Row.{kinds_agree, both_directions, problem_by, pairs}

-- The table has the pairs of the row's last set, and only pairs of its first set: it lies between the two.
abbrev pub BeginsBy : List Direction → Circuit → Circuit → List ℕ → List ℕ → Type 0
BeginsBy ways pattern host taken first = BeginsOf (problem_by ways pattern host taken) first

abbrev pub Begins : Circuit → Circuit → List ℕ → List ℕ → Type 0
Begins pattern host taken first = BeginsBy both_directions pattern host taken first

-- the set of the parts that agree with a node, by their kinds
unfoldable pub start_node : List ℕ → List ℕ → ℕ → ℕ
start_node part_labels nodeLabels v = number_of (length part_labels) (λ u. kinds_agree (get_or part_labels u 0) (get_or nodeLabels v 0))

-- The table of n sets that a rule makes, empty outside the list, and how many pairs it has.
pub record Written (n : ℕ) (f : ℕ → ℕ) (nodes table : List ℕ) (count : ℕ) : Type 0 where
  pub made : table ≡ table_at n f nodes
  pub size : count ≡ pairs table
