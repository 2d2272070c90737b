-- The call that finds the least that still says none, whole: the reply, and the lent bytes' later content, from the
-- inputs alone.
use Rattle.std.specs.Prelude.{◌∷◌, ◌++◌}
use Rattle.base_lists.specs.Kit.{Bool, List, [], ℕ, length}
use Rattle.graph.specs.Circuit.{Circuit}
use Rattle.file_format.specs.Circuit.{circuit_of}
use Rattle.file_format.specs.declared.Role.TheVariants.{Pattern}
use Rattle.file_format.specs.Layout.{CircuitFile, nodes_of, links_of}
use Rattle.file_format.specs.Refusals.{Condition, first, centre_outside, short_table, centre_placed}
use Rattle.file_pair.specs.Pair.{pair_conditions}
use Rattle.place.specs.Match.{radius_of, found}
use Rattle.barring.specs.Outcome.{BarOutcome, barring}

-- 7 for the centre; 8 for "the pattern's M bytes"; then "15, the centre has a place, checked after 8"
abbrev pub bar_conditions : ℕ → ℕ → ℕ → ℕ → Bool → List Condition
bar_conditions n m w lent placed = centre_outside n w ∷ short_table m lent ∷ centre_placed placed ∷ []

-- "15, the centre has a place": at the pattern's radius
unfoldable pub has_place : CircuitFile → CircuitFile → ℕ → Bool
has_place pattern board w = found (circuit_of pattern) (circuit_of board) w (radius_of (circuit_of pattern))

-- the conditions on the two files come first
unfoldable pub bar_inputs : CircuitFile → CircuitFile → ℕ → ℕ → List Condition
bar_inputs pattern board w lent = pair_conditions Pattern pattern board ++ bar_conditions (nodes_of board) (links_of pattern) w lent (has_place pattern board w)

unfoldable pub bar_call : CircuitFile → CircuitFile → ℕ → List ℕ → BarOutcome
bar_call pattern board w out =
    barring (first (bar_inputs pattern board w (length out))) (circuit_of pattern) (circuit_of board) w (radius_of (circuit_of pattern)) out

-- the call on two circuits that were read, at a radius
unfoldable pub bar_on : ℕ → Circuit → Circuit → ℕ → List ℕ → BarOutcome
bar_on r pattern board w out =
    barring (first (bar_conditions (length board.labels) (length pattern.starts) w (length out) (found pattern board w r))) pattern board w r out
