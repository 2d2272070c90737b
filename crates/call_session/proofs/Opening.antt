-- The tables that opening fills hold a fresh machine. Assumes nothing.
use Rattle.std.specs.Prelude.{◌≡◌, ◌++◌, ◌<◌, ◌+◌, ◌-◌, Ok, Err}
use Rattle.base_lists.specs.Kit.{◌∙◌, sym, ap, refl, Bool, false, true, cond, List, ℕ, ltb, length, get_or, take, drop, replicate, get_or-eq_default, length-replicate, get_or-replicate, get_or-append, take_at, get_or-drop, get_or-append-add, arith, ltb-false, ltb-true}
use Rattle.base_lists.specs.List.{Below}
use Rattle.base_lists.proofs.Tables.{length-tabulate}
use Rattle.base_lists.proofs.Entries.{all-below, get_d_any, all-below-wider}
use Rattle.graph.specs.Circuit.{Circuit}
use Rattle.graph.specs.Search.{far}
use Rattle.graph.proofs.Chosen.{chosen-all}
use Rattle.file_format.specs.Circuit.{Bounded}
use Rattle.file_format.specs.Layout.{CircuitFile}
use Rattle.file_format.specs.Reading.{prefix}
use Rattle.file_format.specs.Refusals.{refuse, first}
use Rattle.file_format.specs.Reply.{verdict_of}
use Rattle.file_format.specs.declared.Refusal.{Refusal}
use Rattle.file_format.specs.declared.Role.TheVariants as role
use Rattle.file_format.proofs.Accepted.{bounded-starts, bounded-ends}
use Rattle.file_format.proofs.Refusals.{accept-not-refuse}
use Rattle.file_pair.specs.declared.Pair.{Pair}
use Rattle.file_pair.specs.Pair.{pair_conditions, BothRead}
use Rattle.table.specs.Host.{everything}
use Rattle.table.specs.Row.{last_table}
use Rattle.session.specs.Machine.{Machine, fresh, board_left}
use Rattle.session.specs.State.{State, state, Linked, Holds, end_left}
use Rattle.session.proofs.Left.{fresh-inside, fresh-left}
use Rattle.session_open.specs.Open.{padded, LinksNumbered, Ended, Fixed}
use Rattle.call_session.specs.Call.{open_state, OpenPromise}

-- ---- the links of a fresh machine

-- an entry of values that are padded
pad-entry : (k : ℕ) (xs : List ℕ) (i : ℕ) → get_or (padded k xs) i far ≡ cond (ltb i (length xs)) (get_or xs i 0) far
unfolding padded
pad-entry k xs i = go (ltb i (length xs)) refl
  where
    rest : (j : ℕ) → get_or (replicate k far) j far ≡ far
    rest j = at (ltb j k) refl
      where
        at : (b : Bool) → ltb j k ≡ b → get_or (replicate k far) j far ≡ far
        at true e = get_or-replicate k j far far (ltb-true j k e)
        at false e =
            let out = ltb-false j k e in
            get_or-eq_default (replicate k far) far (omega (arith, length-replicate {A = ℕ} k far))

    go : (b : Bool) → ltb i (length xs) ≡ b → get_or (xs ++ drop (length xs) (replicate k far)) i far ≡ cond b (get_or xs i 0) far
    go true e =
        let h : i < length xs = ltb-true i (length xs) e in
        get_or-append xs (drop (length xs) (replicate k far)) far i h ∙ get_d_any xs i far 0 h
    go false e =
        let out = ltb-false i (length xs) e in
        let q : i ≡ length xs + (i - length xs) = omega arith in
        ap (λ (j : ℕ). get_or (xs ++ drop (length xs) (replicate k far)) j far) q
        ∙ get_or-append-add xs (drop (length xs) (replicate k far)) (i - length xs) far
        ∙ get_or-drop (length xs) (replicate k far) (i - length xs) far
        ∙ rest (length xs + (i - length xs))

module _ (pattern board : Circuit) (b : Bounded role.Board board) where
  abbrev m : Machine
  m = fresh pattern board

  end_fresh : (ends : List ℕ) → length ends ≡ length board.starts → (i : ℕ) → get_or (padded 4096 ends) i far ≡ end_left m ends i
  unfolding end_left
  end_fresh ends e i =
      pad-entry 4096 ends i ∙ ap (λ (c : Bool). cond c (get_or ends i 0) far) (ap (ltb i) e ∙ sym (fresh-left pattern board i))

  -- all links are left, so that the board is what it was
  board-fresh : board_left m ≡ board
  unfolding board_left fresh
  board-fresh = chosen-all board _ b.parallel (fresh-inside pattern board)

  linked-fresh :
      {before held offsets numbers stored : List ℕ} → LinksNumbered (length board.labels) board.starts board.ends before held offsets numbers → Ended board.starts board.ends stored →
      Linked m offsets numbers stored
  unfolding fresh
  linked-fresh numbered ended =
      record {
        by_start = numbered.by_start;
        by_end = numbered.by_end;
        at_ends = λ i. ap (λ (l : List ℕ). get_or l i far) ended.forward ∙ end_fresh board.ends (sym b.parallel) i;
        at_starts = λ i. ap (λ (l : List ℕ). get_or l i far) ended.backward ∙ end_fresh board.starts refl i;
      }

  -- So these tables hold a fresh machine, and are those that opening is to fill.
  module _ (p : Bounded role.Pattern pattern) {fixed offsets numbers stored table : List ℕ} (s : State) {parts nodes : ℕ} (ep : parts ≡ length pattern.labels)
      (en : nodes ≡ length board.labels) (stays : Fixed pattern.starts pattern.ends parts nodes fixed)
      (numbered : LinksNumbered nodes board.starts board.ends s.offsets s.numbers offsets numbers) (ended : Ended board.starts board.ends stored)
      (last : table ≡ last_table pattern board (everything board)) (long : length table ≡ nodes) where
    pub fresh_holds : Holds m (state fixed offsets numbers stored (table ++ drop nodes s.sets))
    unfolding fresh
    fresh_holds =
        record {
          pattern = p;
          board = b;
          bytes = length-tabulate (length board.starts) (λ i. 1);
          masked = stays.masked;
          parts = stays.of_parts ∙ ep;
          nodes = stays.of_nodes ∙ en;
          links = linked-fresh (rw en at numbered) ended;
          table =
              ap (λ (k : ℕ). take k (table ++ drop nodes s.sets)) (sym en)
              ∙ take_at table (drop nodes s.sets) nodes long
              ∙ last
              ∙ ap (λ (c : Circuit). last_table pattern c (everything c)) (sym board-fresh);
        }

    pub fresh-state : state fixed offsets numbers stored (table ++ drop nodes s.sets) ≡ open_state pattern board s
    unfolding open_state
    fresh-state = rw (stays.content, numbered.in_offsets, numbered.in_numbers, ended.content, last, ep, en)

-- what the pattern's links need of it
pub pattern-below : {c : Circuit} → Bounded role.Pattern c → Below 32 c.starts × Below 32 c.ends
pattern-below {c} b = (
  all-below 32 c.starts (all-below-wider (length c.labels) 32 c.starts b.nodes (bounded-starts b)),
  all-below 32 c.ends (all-below-wider (length c.labels) 32 c.ends b.nodes (bounded-ends b)),
)

-- ---- the two answers

module _ {pattern board : CircuitFile} {before : State} where
  pub open-refused : {x : Refusal} → first (pair_conditions role.AnyPattern pattern board) ≡ refuse x → OpenPromise pattern board before (verdict_of {A = Unit {0}} (Err x)) before
  unfolding verdict_of
  open-refused {x} e = record { replied = sym e; opened = λ q. absurd (accept-not-refuse (sym q)); content = λ q. absurd (accept-not-refuse (sym q)); refused = λ y q. refl }

  pub open-held :
      {read : Pair} {parts nodes : Circuit} → BothRead role.AnyPattern pattern board read parts nodes → {after : State} →
      Holds (fresh (prefix read.parts read.joins parts) (prefix read.nodes read.links nodes)) after →
      after ≡ open_state (prefix read.parts read.joins parts) (prefix read.nodes read.links nodes) before → OpenPromise pattern board before (verdict_of {A = Unit {0}} (Ok tt)) after
  unfolding verdict_of
  open-held both h e =
      record {
        replied = sym both.verdict;
        opened = λ q. rw (both.drawn.content, both.given.content) at h;
        content = λ q. rw (both.drawn.content, both.given.content) at e;
        refused = λ x q. absurd (accept-not-refuse q);
      }
