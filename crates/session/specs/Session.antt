-- What the calls of a session come to on tables that hold a machine, from what they make of any (Tables); and a list of cuts, one call after another.
use Rattle.std.specs.Prelude.{◌≡◌, ◌∷◌, ◌++◌}
use Rattle.base_lists.specs.Kit.{cond, List, [], ℕ, length, drop}
use Rattle.file_format.specs.Reading.{filled}
use Rattle.file_format.specs.Refusals.{Verdict, refuse, first, short_table}
use Rattle.file_format.specs.Reply.{Reply, reply}
use Rattle.file_format.specs.declared.Refusal.{Refusal}
use Rattle.table.specs.Host.{everything}
use Rattle.table.specs.Row.{last_table}
use Rattle.session.specs.Machine.{Machine, is_left, take_out, cut_reply, cut_machine, board_left, machine_table}
use Rattle.session.specs.State.{State, link_out, Holds}

-- the tables after a cut: where a link is left at the place, its two entries are no node's, and the sets are the last table without it, before those past N
unfoldable pub cut_state : Machine → ℕ → State → State
cut_state m linkIndex s =
    cond (is_left m linkIndex)
    (link_out s linkIndex
    (last_table m.pattern (board_left (take_out m linkIndex)) (everything (board_left (take_out m linkIndex))) ++ drop (length m.board.labels) s.sets))
    s

-- A cut of tables that hold a machine: the reply is the machine's, and the tables hold the machine after it, by these entries. A refusal leaves all tables as they were,
-- whatever they hold.
pub record CutPromise (before : State) (linkIndex : ℕ) (reply : Verdict) (after : State) : Type 0 where
  pub machine : (m : Machine) → Holds m before → (reply ≡ cut_reply m linkIndex) × Holds (cut_machine m linkIndex) after × (after ≡ cut_state m linkIndex before)
  pub refused : (x : Refusal) → reply ≡ refuse x → after ≡ before

-- Reading out the table of a machine: "8 a lent output table too short"; else the table stands at the front, and entries past N stay.
pub record ReadPromise (s : State) (before : List ℕ) (answer : Reply) (after : List ℕ) : Type 0 where
  pub machine :
      (m : Machine) → Holds m s →
      let verdict = first (short_table (length m.board.labels) (length before) ∷ []) in
      (answer ≡ reply verdict (length m.board.labels ∷ [])) × (after ≡ filled verdict (machine_table m) before)
  pub refused : (x : Refusal) → answer.verdict ≡ refuse x → after ≡ before

-- ---- one call after another

-- the places that were cut, the replies, and the tables from the first call to the last
unfoldable pub Cuts : State → List ℕ → List Verdict → State → Type 0
Cuts before [] [] after = after ≡ before
Cuts before [] (r ∷ rs) after = ⊥
Cuts before (linkIndex ∷ linkIndices) [] after = ⊥
Cuts before (linkIndex ∷ linkIndices) (r ∷ rs) after = (s : State) × CutPromise before linkIndex r s × Cuts s linkIndices rs after
