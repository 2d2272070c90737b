-- The call that checks a place from elsewhere, whole: the reply, from the inputs alone. Nothing is lent.
use Rattle.std.specs.Prelude.{◌∷◌, ◌++◌, Result, Ok, Err}
use Rattle.base_lists.specs.Kit.{Bool, cond, List, [], ℕ, length}
use Rattle.graph.specs.Circuit.{Circuit}
use Rattle.file_format.specs.declared.Refusal.{Refusal}
use Rattle.file_format.specs.declared.Role.TheVariants.{Pattern}
use Rattle.file_format.specs.Circuit.{circuit_of}
use Rattle.file_format.specs.Layout.{CircuitFile, nodes_of, links_of}
use Rattle.file_format.specs.Refusals.{Condition, accept, refuse, first}
use Rattle.file_format.specs.Reply.{Reply, reply}
use Rattle.call_decide.specs.Decide.{bytes_conditions}
use Rattle.file_pair.specs.Pair.{pair_conditions}
use Rattle.place.specs.Match.{radius_of}
use Rattle.proposal.specs.Check.{checks}

-- yes is 1, no is 0
abbrev pub yes_value : Bool → ℕ
yes_value b = cond b 1 0

-- number and values of each case of the answer
unfoldable pub check_reply : Result Bool Refusal → Reply
check_reply (Ok is) = record { verdict = accept; values = yes_value is ∷ [] }
check_reply (Err x) = record { verdict = refuse x; values = [] }

-- the conditions on both files, then those on the centre and the bytes
unfoldable pub check_conditions : CircuitFile → CircuitFile → ℕ → ℕ → ℕ → List Condition
check_conditions pattern board w nodes links = pair_conditions Pattern pattern board ++ bytes_conditions (nodes_of board) (links_of board) w nodes links

-- the call, at the pattern's radius
unfoldable pub check_call : CircuitFile → CircuitFile → ℕ → List ℕ → List ℕ → Reply
check_call pattern board w nodes links =
    reply (first (check_conditions pattern board w (length nodes) (length links)))
    (yes_value (checks (circuit_of pattern) (circuit_of board) w (radius_of (circuit_of pattern)) nodes links) ∷ [])

-- the call on two circuits that were read, at a radius
unfoldable pub check_on : ℕ → Circuit → Circuit → ℕ → List ℕ → List ℕ → Reply
check_on r pattern board w nodes links =
    reply (first (bytes_conditions (length board.labels) (length board.starts) w (length nodes) (length links)))
    (yes_value (checks pattern board w r nodes links) ∷ [])
