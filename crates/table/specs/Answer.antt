-- What the whole-board call answers, for patterns that may lie in several bits: "If some part is left without a node, the table is all 0,
-- kept is 0, struck equals started, and rounds count as before." The row is run to its end, and clearing the table is no round.
use Rattle.std.specs.Prelude.{◌≡◌}
use Rattle.base_lists.specs.Kit.{Bool, false, true, List, ℕ}
use Rattle.graph.specs.Circuit.{Circuit}
use Rattle.table_row.specs.Answer.{answer_of, answer_kept, answer_struck}
unfoldable pub use Rattle.table_row.specs.Answer.{all_occur, all_or_none}
pub use Rattle.table_row.specs.Reading.{SetsFit}
use Rattle.table.specs.Host.{everything}
use Rattle.simulation.specs.Simulation.{Direction}
use Rattle.table.specs.Row.{both_directions, problem_by, started_by, rounds_by}
use Rattle.table.specs.declared.Counts.{Counts}

-- the table: the last set of the row, or all 0
abbrev pub answer_by : List Direction → Circuit → Circuit → List ℕ → List ℕ
answer_by ways pattern host taken = answer_of (problem_by ways pattern host taken)

abbrev pub answer_table : Circuit → Circuit → List ℕ → List ℕ
answer_table pattern host taken = answer_by both_directions pattern host taken

-- the four counts: kept are the pairs of that table
unfoldable pub answer_counts_by : List Direction → Circuit → Circuit → List ℕ → Counts
answer_counts_by ways pattern host taken =
    record {
      started = started_by ways pattern host taken;
      kept = answer_kept (problem_by ways pattern host taken);
      struck = answer_struck (problem_by ways pattern host taken);
      rounds = rounds_by ways pattern host taken;
    }

abbrev pub answer_counts : Circuit → Circuit → List ℕ → Counts
answer_counts pattern host taken = answer_counts_by both_directions pattern host taken

-- the answer on a circuit's part that has the nodes taken
pub record AnsweredBy (ways : List Direction) (pattern host : Circuit) (taken table : List ℕ) (counts : Counts) : Type 0 where
  pub counted : counts ≡ answer_counts_by ways pattern host taken
  pub last : table ≡ answer_by ways pattern host taken

-- the answer on the whole board
abbrev pub AnsweredOn : List Direction → Circuit → Circuit → List ℕ → Counts → Type 0
AnsweredOn ways pattern board table counts = AnsweredBy ways pattern board (everything board) table counts

-- ---- how the rule is applied

-- a row's counts, by whether every part has a node in its last set
unfoldable pub counts_where : Bool → Counts → Counts
counts_where true counts = counts
counts_where false counts = record { started = counts.started; kept = 0; struck = counts.started; rounds = counts.rounds }

-- the rule, applied to the table of a row's last set and to the row's counts
pub record Ruled (parts nodes : ℕ) (last : List ℕ) (counts : Counts) (table : List ℕ) (answer : Counts) : Type 0 where
  pub made : table ≡ all_or_none nodes parts last
  pub counted : answer ≡ counts_where (all_occur nodes parts last) counts
