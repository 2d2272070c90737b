-- The row of sets of a pattern with bounds on a board, on arbitrary sets, and how it is run: document 01's row with these steps and moves.
use Rattle.std.specs.Prelude.{◌≡◌, ◌↔◌, ◌≤◌, ◌<◌}
use Rattle.base_lists.specs.Kit.{List, map, ℕ, suc}
use Rattle.std.specs.Int.Count.{ones}
use Rattle.base_lists.specs.List.{sum}
use Rattle.graph.specs.Circuit.{Circuit, circuit_graph}
use Rattle.simulation.specs.Closed.{Relation, ◌⊆◌, Row}
use Rattle.simulation.specs.Simulation.{Candidate, Along}
use Rattle.table.specs.Host.{KindsMatch}
use Rattle.table.specs.Row.{InTable}
use Rattle.bounded.specs.Path.{PathWithin}
use Rattle.bounded.specs.Problem.{bounded_graph, Label}

-- the pattern's links of a bound, in a direction
abbrev pub Steps : Circuit → List ℕ → Label → Relation
Steps pattern bounds l = Along (λ x y. (bounded_graph pattern bounds).Link x y l.bound) l.way

-- and the paths within that bound that meet them
abbrev pub Moves : Circuit → Label → Relation
Moves board l = Along (PathWithin (circuit_graph board).Link l.bound) l.way

-- "R0 is the set of pairs with equal kinds."
abbrev pub Candidates : Circuit → Circuit → Relation
Candidates pattern board = Candidate (circuit_graph pattern) (KindsMatch pattern board) (circuit_graph board)

-- "Each further set keeps those pairs of the last whose links have partners in the last.", where a link has a partner by a path within its bound
abbrev pub BoundedSets : Circuit → List ℕ → Circuit → ℕ → Relation
BoundedSets pattern bounds board = Row (Steps pattern bounds) (Moves board) (Candidates pattern board)

-- "started, the pairs of R0; .. rounds, how many sets differ from the one before": each set before `rounds` has a pair that the next one has
-- not, and no later one has. Pairs are counted as one bits of tables that hold the sets.
pub record BoundedRun (pattern : Circuit) (bounds : List ℕ) (board : Circuit) (begun rounds : ℕ) : Type 0 where
  pub table : ℕ → List ℕ
  pub holds : (k u v : ℕ) → InTable (table k) u v ↔ BoundedSets pattern bounds board k u v
  pub started : begun ≡ sum (map ones (table 0))
  pub differ : (k : ℕ) → k < rounds → BoundedSets pattern bounds board k ⊆ BoundedSets pattern bounds board (suc k) → ⊥
  pub rest : (k : ℕ) → rounds ≤ k → BoundedSets pattern bounds board k ⊆ BoundedSets pattern bounds board (suc k)
