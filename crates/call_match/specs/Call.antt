-- The exported call on two files, whole: its reply and the table's later content, from the inputs alone.
use Rattle.std.specs.Prelude.{◌≡◌, ◌∷◌, ◌++◌, Result, Ok, Err}
use Rattle.base_lists.specs.Kit.{List, [], ℕ, length}
use Rattle.graph.specs.Circuit.{Circuit, circuit}
use Rattle.simulation.specs.Simulation.{Direction}
use Rattle.file_format.specs.declared.Refusal.{Refusal}
use Rattle.file_format.specs.declared.Role.TheVariants.{Pattern, Board, AnyPattern}
use Rattle.file_format.specs.Circuit.{circuit_of}
use Rattle.file_format.specs.Layout.{CircuitFile, nodes_of}
use Rattle.file_format.specs.Reading.{filled}
use Rattle.file_format.specs.Refusals.{Condition, Verdict, accept, refuse, first, without, file_conditions, short_table}
use Rattle.file_pair.specs.Pair.{pair_conditions}
use Rattle.table.specs.declared.Counts.{Counts}
use Rattle.table.specs.Answer.{answer_by, answer_counts_by}
use Rattle.table.specs.Host.{everything}
use Rattle.table.specs.Prepared.{Tables, PreparedBy}
use Rattle.table.specs.Refine.{counts_of}
use Rattle.table.specs.Reply.{MatchReply, no_counts, counts_reply}
use Rattle.table.specs.Row.{both_directions, one_way, last_table}

-- "Rising numbers are the order, the pattern's .. before the board's. Needed: .. match table N". "the whole-board call
-- applies neither 6 nor 11": the pattern may be any, connected or not.
unfoldable pub match_conditions : CircuitFile → CircuitFile → ℕ → List Condition
match_conditions pattern board lent = pair_conditions AnyPattern pattern board ++ (short_table (nodes_of board) lent ∷ [])

-- each case of the answer, so read: a refusal has no counts
unfoldable pub reply_of : Result Counts Refusal → MatchReply
reply_of (Ok counts) = record { verdict = accept; counts = counts }
reply_of (Err x) = record { verdict = refuse x; counts = no_counts }

-- the reply, and the table as the call leaves it
pub record TableOutcome : Type 0 where
  pub reply : MatchReply
  pub table : List ℕ

-- The pattern on the whole board: the four counts, and at the front of the table, whose entries past N stay, the last
-- set of the row, or all 0 where some part is left without a node. On a refusal the whole table stays.
abbrev pub matched_by : List Direction → Verdict → Circuit → Circuit → List ℕ → TableOutcome
matched_by ways verdict p b table =
    record { reply = counts_reply verdict (answer_counts_by ways p b (everything b)); table = filled verdict (answer_by ways p b (everything b)) table }

-- the call on two circuits that were read: the table may be short
unfoldable pub match_on : List Direction → Circuit → Circuit → List ℕ → TableOutcome
match_on ways p b table = matched_by ways (first (short_table (length b.labels) (length table) ∷ [])) p b table

-- this of every pattern and board with these kinds, and every choice of directions, that tables are of
abbrev pub EveryMatch : List ℕ → List ℕ → Tables → List ℕ → TableOutcome → Type 0
EveryMatch part_labels nodeLabels t table o =
    (ways : List Direction) (part_starts part_ends node_starts node_ends : List ℕ) →
    PreparedBy ways (circuit part_labels part_starts part_ends) (circuit nodeLabels node_starts node_ends) t →
    o ≡ match_on ways (circuit part_labels part_starts part_ends) (circuit nodeLabels node_starts node_ends) table

-- the call on two files, in the directions chosen
unfoldable pub matching_by : List Direction → CircuitFile → CircuitFile → List ℕ → TableOutcome
matching_by ways pattern board table = matched_by ways (first (match_conditions pattern board (length table))) (circuit_of pattern) (circuit_of board) table

-- the match-table call, and "a variant whose pairs need partners along forward links only"
abbrev pub matching : CircuitFile → CircuitFile → List ℕ → TableOutcome
matching pattern board table = matching_by both_directions pattern board table

abbrev pub one_way_matching : CircuitFile → CircuitFile → List ℕ → TableOutcome
one_way_matching pattern board table = matching_by one_way pattern board table

-- ---- connected patterns alone, as document 01 has the call

-- "the pattern's 1 to 6 before the board's": without document 02's 11
unfoldable pub connected_conditions : CircuitFile → CircuitFile → ℕ → List Condition
connected_conditions pattern board lent =
    (without 11 (file_conditions Pattern pattern) ++ file_conditions Board board) ++ (short_table (nodes_of board) lent ∷ [])

-- the last set of the row, with its counts. proofs/Promise: "Connected patterns get the table and counts they always
-- got."
abbrev pub row_outcome : Verdict → Circuit → Circuit → List ℕ → TableOutcome
row_outcome verdict p b table =
    record { reply = counts_reply verdict (counts_of p b (everything b)); table = filled verdict (last_table p b (everything b)) table }

unfoldable pub connected_matching : CircuitFile → CircuitFile → List ℕ → TableOutcome
connected_matching pattern board table = row_outcome (first (connected_conditions pattern board (length table))) (circuit_of pattern) (circuit_of board) table
