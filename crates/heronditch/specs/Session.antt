-- The calls of a session as a host program sees them: each reply as a struct of numbers, and what the lent tables hold.
use Rattle.std.specs.Prelude.{◌≡◌, ◌∷◌}
use Rattle.base_lists.specs.Kit.{List, [], map, ℕ}
use Rattle.file_format.specs.Circuit.{circuit_of}
use Rattle.file_format.specs.Layout.{CircuitFile}
use Rattle.file_format.specs.Reading.{filled}
use Rattle.file_format.specs.Refusals.{Verdict, accept, refuse, first}
use Rattle.file_format.specs.Reply.{reply}
use Rattle.file_format.specs.declared.Refusal.{Refusal}
use Rattle.call_session.specs.Call.{open_conditions, open_state}
use Rattle.session.specs.Machine.{fresh}
use Rattle.session.specs.State.{State, Holds}
use Rattle.session.specs.Tables.{nodes_in, cut_answered, cut_tables, read_verdict, table_in}
use Rattle.heronditch_reply.specs.declared.HostReply.{HostReply}
use Rattle.heronditch_reply.specs.Replies.{slots}

-- opening: refused by the conditions on the two files, which leaves the tables as they were; else the tables hold a
-- fresh machine
pub record HostOpen (pattern board : CircuitFile) (before : State) (r : HostReply) (after : State) : Type 0 where
  pub replied : r ≡ slots (reply (first (open_conditions pattern board)) [])
  pub opened : first (open_conditions pattern board) ≡ accept → Holds (fresh (circuit_of pattern) (circuit_of board)) after
  pub content : first (open_conditions pattern board) ≡ accept → after ≡ open_state (circuit_of pattern) (circuit_of board) before
  pub refused : (x : Refusal) → first (open_conditions pattern board) ≡ refuse x → after ≡ before

-- a cut, whatever the tables hold: the reply, and the tables after it
pub record HostCut (before : State) (link : ℕ) (r : HostReply) (after : State) : Type 0 where
  pub replied : r ≡ slots (reply (cut_answered before link) [])
  pub tables : after ≡ cut_tables before link

-- reading out, whatever the tables hold: the reply, and the lent table after it
pub record HostReadOut (fixed sets before : List ℕ) (r : HostReply) (after : List ℕ) : Type 0 where
  pub replied : r ≡ slots (reply (read_verdict fixed before) (nodes_in fixed ∷ []))
  pub table : after ≡ filled (read_verdict fixed before) (table_in fixed sets) before

-- one cut after another: the links, the replies, and the tables from the first call to the last
unfoldable pub HostCuts : State → List ℕ → List HostReply → State → Type 0
HostCuts before [] [] after = after ≡ before
HostCuts before [] (r ∷ rs) after = ⊥
HostCuts before (link ∷ links) [] after = ⊥
HostCuts before (link ∷ links) (r ∷ rs) after = (s : State) × HostCut before link r s × HostCuts s links rs after

-- the replies to them
abbrev pub host_replies : List Verdict → List HostReply
host_replies vs = map (λ v. slots (reply v [])) vs
