-- Opening a session on two files, whole: its reply, and what the lent tables hold then.
use Rattle.std.specs.Prelude.{◌≡◌, ◌∷◌, ◌++◌}
use Rattle.base_lists.specs.Kit.{List, [], length, drop}
use Rattle.graph.specs.Circuit.{Circuit}
use Rattle.graph.specs.Neighbours.{offsets_of, grouped_values}
use Rattle.file_format.specs.declared.Refusal.{Refusal}
use Rattle.file_format.specs.declared.Role.TheVariants.{AnyPattern}
use Rattle.file_format.specs.Circuit.{circuit_of}
use Rattle.file_format.specs.Layout.{CircuitFile}
use Rattle.file_format.specs.Refusals.{Condition, Verdict, accept, refuse, first}
use Rattle.file_pair.specs.Pair.{pair_conditions}
use Rattle.table.specs.Fill.{all_nodes}
use Rattle.table.specs.Host.{everything}
use Rattle.table.specs.Prepared.{masks_of}
use Rattle.table.specs.Row.{last_table}
use Rattle.session_open.specs.Open.{halves_filled, padded}
use Rattle.session.specs.Machine.{fresh}
use Rattle.session.specs.State.{State, Holds}

-- "opening refuses as Ask 7's call does but for 8, the table being the session's own"
abbrev pub open_conditions : CircuitFile → CircuitFile → List Condition
open_conditions pattern board = pair_conditions AnyPattern pattern board

-- the tables as opening fills them; entries past those needed stay
unfoldable pub open_state : Circuit → Circuit → State → State
open_state pattern board s =
    let n = length board.labels in
    let order = all_nodes (length board.starts) in
    record {
      fixed =
          (masks_of 32 pattern.starts pattern.ends ++ masks_of 32 pattern.ends pattern.starts) ++ (length pattern.labels ∷ n ∷ []);
      offsets = halves_filled 513 (offsets_of n board.starts) (offsets_of n board.ends) s.offsets;
      numbers = halves_filled 4096 (grouped_values n board.starts order) (grouped_values n board.ends order) s.numbers;
      ends = padded 4096 board.ends ++ padded 4096 board.starts;
      sets = last_table pattern board (everything board) ++ drop n s.sets;
    }

-- The reply; where it is 'open', the tables hold a fresh machine on the two circuits, by these entries, and a refusal
-- leaves them as they were.
pub record OpenPromise (pattern board : CircuitFile) (before : State) (reply : Verdict) (after : State) : Type 0 where
  pub replied : reply ≡ first (open_conditions pattern board)
  pub opened : reply ≡ accept → Holds (fresh (circuit_of pattern) (circuit_of board)) after
  pub content : reply ≡ accept → after ≡ open_state (circuit_of pattern) (circuit_of board) before
  pub refused : (x : Refusal) → reply ≡ refuse x → after ≡ before
