-- The exported call on a third-edition pattern file and a board file, whole: its reply and the table's later content,
-- from the inputs alone.
use Rattle.std.specs.Prelude.{◌∷◌, ◌++◌}
use Rattle.base_lists.specs.Kit.{List, [], ℕ, length}
use Rattle.graph.specs.Circuit.{Circuit}
use Rattle.file_format.specs.declared.Role.TheVariants.{Board}
use Rattle.file_format.specs.Circuit.{circuit_of}
use Rattle.file_format.specs.Layout.{CircuitFile, nodes_of}
use Rattle.file_format.specs.Reading.{filled}
use Rattle.file_format.specs.Refusals.{Condition, Verdict, first, file_conditions, short_table}
use Rattle.file_bounds.specs.Third.{before_bounds, bounds_of, third_conditions}
use Rattle.bounded.specs.Problem.{bounded_table, bounded_counts}
use Rattle.call_match.specs.Call.{TableOutcome}
use Rattle.table.specs.Reply.{counts_reply}

-- "Only Ask 7's whole-board call takes this edition, with its counts, all-0 rule and refusals." "13 .. checked after
-- the pattern's 5 and before the board's 1": the pattern's conditions, the board's, and then the table's length.
unfoldable pub bounded_conditions : List ℕ → CircuitFile → ℕ → List Condition
bounded_conditions pattern board lent = third_conditions pattern ++ (file_conditions Board board ++ (short_table (nodes_of board) lent ∷ []))

-- the four counts, and at the front of the table, whose entries past N stay, the answer; on a refusal the whole table
-- stays
abbrev pub bounded_by : Verdict → Circuit → List ℕ → Circuit → List ℕ → TableOutcome
bounded_by verdict p bounds b table =
    record { reply = counts_reply verdict (bounded_counts p bounds b); table = filled verdict (bounded_table p bounds b) table }

-- the call on two circuits that were read: the table may be short
unfoldable pub bounded_on : Circuit → List ℕ → Circuit → List ℕ → TableOutcome
bounded_on p bounds b table = bounded_by (first (short_table (length b.labels) (length table) ∷ [])) p bounds b table

-- the call on two files
unfoldable pub bounded_matching : List ℕ → CircuitFile → List ℕ → TableOutcome
bounded_matching pattern board table =
    bounded_by (first (bounded_conditions pattern board (length table))) (circuit_of (before_bounds pattern)) (bounds_of pattern) (circuit_of board) table
