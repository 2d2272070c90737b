-- Ask 12, "A link through a few parts", quoted over what is proved of it: `Ask12`. proofs/Bounds proves it. The
-- contract of the call equates its reply and what it leaves with `bounded_matching` of the inputs alone. A pattern of
-- the third edition is its bytes; the board is of either edition.
use Rattle.std.specs.Prelude.{◌≡◌, ◌↔◌, ◌≤◌}
use Rattle.base_lists.specs.Kit.{List, ℕ, length, take}
use Rattle.simulation.specs.Closed.{◌⊆◌}
use Rattle.file_format.specs.declared.Role.TheVariants.{Board, AnyPattern}
use Rattle.file_format.specs.Circuit.{circuit_of}
use Rattle.file_format.specs.Layout.{CircuitFile, field, nodes_of}
use Rattle.file_format.specs.Refusals.{accept, first, Accepted}
use Rattle.table.specs.Row.{InTable}
use Rattle.file_bounds.specs.Third.{bounded_length, before_bounds, bounds_of, third_conditions}
use Rattle.bounded.specs.Simulation.{LargestBounded}
use Rattle.bounded.specs.Problem.{Bounds, bounded_graph}
use Rattle.bounded.specs.Raised.{Raised, AllOne}
use Rattle.bounded.specs.Run.{BoundedSets}
use Rattle.call_match.specs.Call.{matching}
use Rattle.call_bounded.specs.Call.{bounded_matching}
use Rattle.demands.specs.Demands.{graph, equal, Matched}

-- "A pattern file of a third edition has a third parallel array after the ends: a bound for each link, 1 to 4. .. The
-- length is 4 + 4N + 6M.": such a file, where what stands before the bounds is a second-edition file of a pattern,
-- connected or not
pub record ThirdEdition (pattern : List ℕ) : Type 0 where
  pub long : length pattern ≡ bounded_length (field pattern 0) (field pattern 2)
  pub drawn : Accepted AnyPattern (before_bounds pattern)
  pub bounds : Bounds (circuit_of (before_bounds pattern)) (bounds_of pattern)

pub record Ask12 : Type 1 where
  -- (On every input: 1, 2 and 3 with the third edition's length, 4, 5, "13, a bound outside 1 to 4, checked after the
  -- pattern's 5 and before the board's 1", the board's 1 to 5, 8: specs/Demands `bounds`.) the files that none of the
  -- pattern's conditions refuses
  pub reads : (pattern : List ℕ) → (first (third_conditions pattern) ≡ accept) ↔ ThirdEdition pattern
  -- "A pattern link with bound h is then met by a directed path of 1 to h board links, end to end": the table is the
  -- largest set of pairs in which every link is met so, "with its counts, all-0 rule": specs/Demands `Matched`, of the
  -- row with these steps and moves
  pub matches : (pattern : List ℕ) (board : CircuitFile) (table : List ℕ) → ThirdEdition pattern → Accepted Board board → nodes_of board ≤ length table →
      let file = before_bounds pattern in
      Matched (BoundedSets (circuit_of file) (bounds_of pattern) (circuit_of board))
      (LargestBounded (bounded_graph (circuit_of file) (bounds_of pattern)) (equal file board) (graph board)) (nodes_of file) (nodes_of board) table (bounded_matching pattern board table)
  -- "With all bounds 1 the table and counts are those of the second edition": the whole reply and the table, refusals
  -- too, for every byte string of the third edition's length
  pub second : (pattern : List ℕ) (board : CircuitFile) (table : List ℕ) → length pattern ≡ bounded_length (field pattern 0) (field pattern 2) →
      AllOne (bounds_of pattern) → bounded_matching pattern board table ≡ matching (before_bounds pattern) board table
  -- "and raising a bound never takes a pair away.": of two patterns that differ in their bounds alone
  pub raised : (pattern pattern' : List ℕ) (board : CircuitFile) (table table' : List ℕ) → before_bounds pattern ≡ before_bounds pattern' →
      Raised (bounds_of pattern) (bounds_of pattern') → (bounded_matching pattern board table).reply.verdict ≡ accept →
      (bounded_matching pattern' board table').reply.verdict ≡ accept →
      InTable (take (nodes_of board) (bounded_matching pattern board table).table) ⊆ InTable (take (nodes_of board) (bounded_matching pattern' board table').table)
