-- The promises of a session's calls, as a host program sees them. Assumes nothing.
use Rattle.std.specs.Prelude.{◌≡◌, ◌∷◌, Result}
use Rattle.base_lists.specs.Kit.{◌∙◌, sym, ap, refl, ap₂, List, [], ℕ, length}
use Rattle.graph.specs.Circuit.{circuit_graph}
use Rattle.simulation.specs.Simulation.{Largest}
use Rattle.file_format.specs.Circuit.{circuit_of}
use Rattle.file_format.specs.Layout.{CircuitFile}
use Rattle.file_format.specs.Reading.{filled}
use Rattle.file_format.specs.Refusals.{Verdict, accept, refuse, first, without, link_conditions, file_conditions, short_table}
use Rattle.file_format.specs.declared.Refusal.{Refusal}
use Rattle.file_format.proofs.Limit.{without-never}
use Rattle.file_pair.specs.Pair.{pair_conditions}
use Rattle.file_format.specs.Reply as files
use Rattle.table.specs.Host.{KindsMatch}
use Rattle.table.specs.Row.{InTable}
use Rattle.call_session.specs.Call.{open_conditions, OpenPromise}
use Rattle.session.specs.Machine.{Machine, fresh, replies, machine_after, board_left, machine_table}
use Rattle.session.specs.State.{State, state, Holds}
use Rattle.session.specs.Tables.{CutMade, cuts_answered, cuts_tables, ReadMade}
use Rattle.session.proofs.Run.{machine-largest}
use Rattle.session.proofs.Tables.{nodes-held, cuts-held, table-held}
use Rattle.heronditch_reply.specs.declared.HostReply.{HostReply}
use Rattle.heronditch_reply.specs.Replies.{slots, verdict_number}
use Rattle.heronditch.specs.Session.{HostOpen, HostCut, HostReadOut, HostCuts, host_replies}

pub host-open :
    {pattern board : CircuitFile} {before after : State} {A : Type 0} (answer : Result A Refusal) {r : HostReply} →
    OpenPromise pattern board before (files.verdict_of answer) after → r ≡ slots (files.reply (files.verdict_of answer) []) → HostOpen pattern board before r after
host-open answer p e =
    record {
      replied = e ∙ ap (λ (v : Verdict). slots (files.reply v [])) p.replied;
      opened = λ q. p.opened (p.replied ∙ q);
      content = λ q. p.content (p.replied ∙ q);
      refused = λ x q. p.refused x (p.replied ∙ q);
    }

never-zero : (pattern board : CircuitFile) (x : Refusal) → first (open_conditions pattern board) ≡ refuse x → x.number ≡ 0 → ⊥
unfolding pair_conditions file_conditions link_conditions without
never-zero pattern board x = without-never 0 (open_conditions pattern board) x

-- no condition has number 0: a reply of number 0 is acceptance
opened-zero : {pattern board : CircuitFile} {before after : State} {r : HostReply} → HostOpen pattern board before r after → r.number ≡ 0 → first (open_conditions pattern board) ≡ accept
unfolding slots verdict_number files.reply
opened-zero {pattern} {board} {before} {after} {r} p e = go (first (open_conditions pattern board)) refl
  where
    go : (v : Verdict) → first (open_conditions pattern board) ≡ v → v ≡ accept
    go accept q = refl
    go (refuse x) q =
        absurd (never-zero pattern board x q (sym (ap (λ (v : Verdict). (slots (files.reply v [])).number) q) ∙ sym (ap (λ (y : HostReply). y.number) p.replied) ∙ e))

pub host-cut :
    {before after : State} {link : ℕ} {v : Verdict} {r : HostReply} → CutMade before link v after → r ≡ slots (files.reply v []) → HostCut before link r after
host-cut p e = record { replied = e ∙ ap (λ (v : Verdict). slots (files.reply v [])) p.replied; tables = p.tables }

pub host-table :
    {fixed sets before after : List ℕ} {a : files.Reply} {r : HostReply} → ReadMade fixed sets before a after → r ≡ slots a → HostReadOut fixed sets before r after
host-table p e = record { replied = e ∙ ap slots p.replied; table = p.table }

-- ---- what reading out comes to where the tables hold a machine

module _ {fixed sets before after : List ℕ} {r : HostReply} (c : HostReadOut fixed sets before r after) where
  pub table-machine :
      (m : Machine) (offsets numbers ends : List ℕ) → Holds m (state fixed offsets numbers ends sets) →
      let verdict = first (short_table (length m.board.labels) (length before) ∷ []) in
      (r ≡ slots (files.reply verdict (length m.board.labels ∷ []))) × (after ≡ filled verdict (machine_table m) before)
  table-machine m offsets numbers ends h =
      let nodes = nodes-held h in (
        c.replied ∙ ap (λ (n : ℕ). slots (files.reply (first (short_table n (length before) ∷ [])) (n ∷ []))) nodes,
        c.table ∙ ap₂ (λ (n : ℕ) (x : List ℕ). filled (first (short_table n (length before) ∷ [])) x before) nodes (table-held h),
      )

-- ---- one cut after another

-- whatever the tables hold: each reply, and the tables after the list
pub host-cuts :
    (links : List ℕ) (rs : List HostReply) (before after : State) → HostCuts before links rs after →
    (rs ≡ host_replies (cuts_answered before links)) × (after ≡ cuts_tables before links)
unfolding HostCuts cuts_answered cuts_tables
host-cuts [] [] before after e = (refl, e)
host-cuts [] (r ∷ rs) before after c = absurd c
host-cuts (link ∷ links) [] before after c = absurd c
host-cuts (link ∷ links) (r ∷ rs) before after (s, cut, rest) =
    let (es, end) = host-cuts links rs s after rest in (
      ap₂ (λ (x : HostReply) (xs : List HostReply). x ∷ xs) cut.replied
          (es ∙ ap (λ (t : State). host_replies (cuts_answered t links)) cut.tables),
      end ∙ ap (λ (t : State). cuts_tables t links) cut.tables,
    )

-- "For every list of cuts from a fresh session, after it .. each reply in the list is the machine's": and the table
-- read out is the machine's, which is the largest dual simulation in the nodes with its links (session/proofs/Run:
-- machine-largest).
module _ {pattern board : CircuitFile} {before opened : State} {r : HostReply} (begun : HostOpen pattern board before r opened)
    (fine : r.number ≡ 0) (links : List ℕ) (rs : List HostReply) (after : State) (cuts : HostCuts opened links rs after) where
  abbrev machine : Machine
  machine = machine_after (fresh (circuit_of pattern) (circuit_of board)) links

  pub host-run : (rs ≡ host_replies (replies (fresh (circuit_of pattern) (circuit_of board)) links)) × Holds machine after
  host-run =
      let (es, end) = host-cuts links rs opened after cuts in
      let (said, holds) = cuts-held links (begun.opened (opened-zero begun fine)) in
      (es ∙ ap host_replies said, rw end holds)

  pub host-read :
      {lent later : List ℕ} {t : HostReply} → HostReadOut after.fixed after.sets lent t later →
      let verdict = first (short_table (length machine.board.labels) (length lent) ∷ []) in
      (t ≡ slots (files.reply verdict (length machine.board.labels ∷ []))) × (later ≡ filled verdict (machine_table machine) lent)
  host-read read = table-machine read machine after.offsets after.numbers after.ends host-run.1

  pub host-largest :
      Largest (circuit_graph machine.pattern) (KindsMatch machine.pattern (board_left machine)) (circuit_graph (board_left machine)) (InTable (machine_table machine))
  host-largest = machine-largest machine host-run.1.pattern host-run.1.board
