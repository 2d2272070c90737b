-- The calls that find a place, whole: the reply, and each lent table's later content, from the inputs alone.
use Rattle.std.specs.Prelude.{◌++◌}
use Rattle.base_lists.specs.Kit.{List, ℕ, length}
use Rattle.graph.specs.Circuit.{Circuit}
use Rattle.file_format.specs.declared.Role.TheVariants.{Pattern}
use Rattle.file_format.specs.Circuit.{circuit_of}
use Rattle.file_format.specs.Layout.{CircuitFile, nodes_of, links_of}
use Rattle.file_format.specs.Refusals.{Condition, Verdict, accept, refuse, first}
use Rattle.file_pair.specs.Pair.{pair_conditions}
use Rattle.table.specs.Reply.{no_counts}
use Rattle.call_decide.specs.Decide.{place_conditions}
use Rattle.place.specs.Outcome.{PlaceOutcome, place_around}

-- the pattern's 1 to 6 and 11 before the board's, then 7 and 8
unfoldable pub input_conditions : CircuitFile → CircuitFile → ℕ → ℕ → ℕ → ℕ → ℕ → List Condition
input_conditions pattern board w nodes links table distances =
    pair_conditions Pattern pattern board ++ place_conditions (nodes_of board) (links_of board) w nodes links table distances

-- "All lent tables keep their content; counts are 0" where a condition on the inputs holds; else it is as the place has
-- it
unfoldable pub decided : Verdict → List ℕ → List ℕ → List ℕ → List ℕ → PlaceOutcome → PlaceOutcome
decided accept nodes links table distances placed = placed
decided (refuse x) nodes links table distances placed =
    record { reply = record { verdict = refuse x; counts = no_counts }; nodes = nodes; links = links; table = table; distances = distances }

-- the call at a radius
unfoldable pub place_at : CircuitFile → CircuitFile → ℕ → ℕ → List ℕ → List ℕ → List ℕ → List ℕ → PlaceOutcome
place_at pattern board w r nodes links table distances =
    decided (first (input_conditions pattern board w (length nodes) (length links) (length table) (length distances))) nodes links table distances
    (place_around (circuit_of pattern) (circuit_of board) w r nodes links table distances)

-- the call on two circuits that were read, at a radius
unfoldable pub place_on : ℕ → Circuit → Circuit → ℕ → List ℕ → List ℕ → List ℕ → List ℕ → PlaceOutcome
place_on r pattern board w nodes links table distances =
    let own = place_conditions (length board.labels) (length board.starts) w (length nodes) (length links) (length table) (length distances) in
    decided (first own) nodes links table distances (place_around pattern board w r nodes links table distances)
