-- Ask 8, each of its sentences quoted over what is proved of it: `Ask8`. proofs/OneWay proves it. What the whole-board
-- call comes to is specs/Demands `Matched`; here links are followed in the directions chosen.
use Rattle.std.specs.Prelude.{◌≡◌, ◌≤◌}
use Rattle.base_lists.specs.Kit.{List, ℕ, length}
use Rattle.graph.specs.Graph.{Graph}
use Rattle.simulation.specs.Closed.{Relation, ◌⊆◌, Row}
use Rattle.simulation.specs.Simulation.{Candidate, Direction, Along, Largest, LargestGraphSimulation}
use Rattle.file_format.specs.declared.Role.TheVariants.{Board, AnyPattern}
use Rattle.file_format.specs.Layout.{CircuitFile, nodes_of}
use Rattle.file_format.specs.Refusals.{Accepted}
use Rattle.table.specs.Row.{both_directions, one_way, InTable, Chosen, LargestOccurring}
use Rattle.call_match.specs.Call.{matching_by, matching, one_way_matching}
use Rattle.demands.specs.Demands.{graph, equal, Matched}

-- the row of sets along chosen directions
abbrev pub SetsAlong : List Direction → Graph → Relation → Graph → ℕ → Relation
SetsAlong ways P Agree H = Row (Chosen ways (Along P.Link)) (Along H.Link) (Candidate P Agree H)

-- the largest set of pairs that is closed along them and in which each part occurs, unless it is empty
abbrev pub LargestAlong : List Direction → CircuitFile → CircuitFile → Relation → Type 1
LargestAlong ways pattern board =
    LargestOccurring (graph pattern).Node (Candidate (graph pattern) (equal pattern board) (graph board)) (Chosen ways (Along (graph pattern).Link)) (Along (graph board).Link)

pub record Ask8 : Type 1 where
  -- "The row of sets, the counts and being largest are shown for a chosen set of directions,
  pub along : (ways : List Direction) (pattern board : CircuitFile) (table : List ℕ) → Accepted AnyPattern pattern → Accepted Board board →
      nodes_of board ≤ length table →
      Matched (SetsAlong ways (graph pattern) (equal pattern board) (graph board)) (LargestAlong ways pattern board) (nodes_of pattern) (nodes_of board) table
      (matching_by ways pattern board table)
  -- with both variants read off from that."
  pub two_ways : (pattern board : CircuitFile) (S : Relation) → LargestAlong both_directions pattern board S → Largest (graph pattern) (equal pattern board) (graph board) S
  -- "a variant whose pairs need partners along forward links only (graph simulation, source document 000), over the
  -- whole board, with the all-0 rule and the refusals of Ask 7 and the four counts"
  pub one_ways : (pattern board : CircuitFile) (S : Relation) → LargestAlong one_way pattern board S →
      LargestGraphSimulation (graph pattern) (equal pattern board) (graph board) S
  pub refusals : (pattern board : CircuitFile) (table : List ℕ) →
      (one_way_matching pattern board table).reply.verdict ≡ (matching pattern board table).reply.verdict
  -- "Its table contains the two-way table for each pattern and board."
  pub contains : (pattern board : CircuitFile) (table : List ℕ) →
      InTable (matching pattern board table).table ⊆ InTable (one_way_matching pattern board table).table
