-- What a cut and reading out come to where the tables hold a machine: the machine's reply, the tables of the machine after it, and its table. Assumes nothing.
use Rattle.std.specs.Prelude.{◌≡◌, ◌∷◌, ◌++◌, ◌≤◌, ◌<◌}
use Rattle.base_lists.specs.Kit.{◌∙◌, sym, ap, refl, ap₂, Bool, false, true, cond, List, [], ℕ, leb, length, take, drop, arith, le-leb, lt-leb, leb-true}
use Rattle.base_lists.proofs.Tests.{true-T}
use Rattle.base_lists.proofs.Tables.{replicate-tabulate}
use Rattle.file_format.specs.Reading.{filled}
use Rattle.file_format.specs.Refusals.{Verdict, accept, refuse, first, link_gone, short_table}
use Rattle.file_format.specs.Reply.{Reply, reply}
use Rattle.file_format.specs.declared.Refusal.{Refusal}
use Rattle.file_format.proofs.Refusals.{accept-not-refuse}
use Rattle.graph.specs.Chosen.{chosen}
use Rattle.table.specs.Answer.{SetsFit, all_or_none}
use Rattle.table.specs.Host.{everything}
use Rattle.table.specs.Row.{problem_by, last_table}
use Rattle.table.proofs.Meaning.{last_fits}
use Rattle.table.proofs.AllParts.{occur-size}
use Rattle.table_row.specs.Answer.{answer_of}
use Rattle.session.specs.Machine.{Machine, is_left, take_out, cut_reply, cut_machine, replies, machine_after, board_left, machine_table}
use Rattle.session.specs.Session.{cut_state, CutPromise, ReadPromise}
use Rattle.session.specs.State.{State, state, Holds, takes, link_out}
use Rattle.session.specs.Tables.{bounded, nodes_in, parts_in, named, cut_answered, cut_sets, cut_tables, CutMade, cuts_answered, cuts_tables, occur_or_none, table_in, read_verdict, ReadMade}
use Rattle.session.proofs.Cutting.{takes-left, cut-last, cut_holds}

-- ---- numbers of the tables

pub bounded-in : (most x : ℕ) → x ≤ most → bounded most x ≡ x
unfolding bounded
bounded-in most x h = rw (le-leb x most h)

pub bounded-out : (most x : ℕ) → most < x → bounded most x ≡ 0
unfolding bounded
bounded-out most x h = rw (lt-leb x most h)

pub bounded-le : (most x : ℕ) → bounded most x ≤ most
unfolding bounded
bounded-le most x = go (leb x most) refl
  where
    go : (b : Bool) → leb x most ≡ b → cond b x 0 ≤ most
    go true e = leb-true x most e
    go false e = omega arith

module _ {m : Machine} {s : State} (h : Holds m s) where
  -- of tables that hold a machine they are the machine's
  pub nodes-held : nodes_in s.fixed ≡ length m.board.labels
  nodes-held = ap (bounded 512) h.nodes ∙ bounded-in 512 (length m.board.labels) h.board.nodes

  pub parts_held : parts_in s.fixed ≡ length m.pattern.labels
  parts_held = ap (bounded 32) h.parts ∙ bounded-in 32 (length m.pattern.labels) h.pattern.nodes

  -- ---- a cut

  module _ (linkIndex : ℕ) where
    pub named-held : named s linkIndex ≡ is_left m linkIndex
    named-held = ap (λ (n : ℕ). takes s.ends n linkIndex) nodes-held ∙ takes-left h linkIndex

    pub answered-held : cut_answered s linkIndex ≡ cut_reply m linkIndex
    unfolding cut_answered cut_reply
    answered-held = ap (λ (b : Bool). first (link_gone b ∷ [])) named-held

    -- the sets are the last table without the link, before those past N
    sets-held : is_left m linkIndex ≡ true →
        cut_sets s linkIndex ≡ last_table m.pattern (board_left (take_out m linkIndex)) (everything (board_left (take_out m linkIndex))) ++ drop (length m.board.labels) s.sets
    unfolding cut_sets
    sets-held e = rw (nodes-held, cut-last h linkIndex (true-T e))

    pub tables-held : cut_tables s linkIndex ≡ cut_state m linkIndex s
    unfolding cut_tables cut_state
    tables-held = rw named-held (go (is_left m linkIndex) refl)
      where
        go : (b : Bool) → is_left m linkIndex ≡ b →
            cond b (link_out s linkIndex (cut_sets s linkIndex)) s
            ≡ cond b (link_out s linkIndex (last_table m.pattern (board_left (take_out m linkIndex)) (everything (board_left (take_out m linkIndex))) ++ drop (length m.board.labels) s.sets)) s
        go true e = ap (link_out s linkIndex) (sets-held e)
        go false e = refl

    state-holds : Holds (cut_machine m linkIndex) (cut_state m linkIndex s)
    unfolding cut_machine cut_state
    state-holds = go (is_left m linkIndex) refl
      where
        go : (b : Bool) → is_left m linkIndex ≡ b → Holds (cut_machine m linkIndex) (cut_state m linkIndex s)
        go true e = rw e (cut_holds h linkIndex (true-T e))
        go false e = rw e h

    -- the tables after a cut hold the machine after it
    pub cut-held : Holds (cut_machine m linkIndex) (cut_tables s linkIndex)
    cut-held = rw tables-held state-holds

-- for every list of cuts: the replies are the machine's, and the tables hold the machine after the list
pub cuts-held : (linkIndices : List ℕ) {m : Machine} {s : State} → Holds m s → (cuts_answered s linkIndices ≡ replies m linkIndices) × Holds (machine_after m linkIndices) (cuts_tables s linkIndices)
unfolding cuts_answered cuts_tables replies machine_after
cuts-held [] h = (refl, h)
cuts-held (linkIndex ∷ linkIndices) h =
    let (rs, end) = cuts-held linkIndices (cut-held h linkIndex) in
    (ap₂ (λ (x : Verdict) (xs : List Verdict). x ∷ xs) (answered-held h linkIndex) rs, end)

-- ---- refused

-- a cut that is refused leaves all tables as they were, whatever they hold
pub cut-refused : (s : State) (linkIndex : ℕ) (x : Refusal) → cut_answered s linkIndex ≡ refuse x → cut_tables s linkIndex ≡ s
unfolding cut_answered cut_tables first link_gone
cut-refused s linkIndex x = go (named s linkIndex)
  where
    go : (b : Bool) → first (link_gone b ∷ []) ≡ refuse x → cond b (link_out s linkIndex (cut_sets s linkIndex)) s ≡ s
    go true q = absurd (accept-not-refuse q)
    go false q = refl

pub cut-promise : {before : State} {linkIndex : ℕ} {reply : Verdict} {after : State} → CutMade before linkIndex reply after → CutPromise before linkIndex reply after
cut-promise {before} {linkIndex} c =
    record {
      machine =
          λ m h. (
            c.replied ∙ answered-held h linkIndex,
            rw c.tables (cut-held h linkIndex),
            c.tables ∙ tables-held h linkIndex,
          );
      refused = λ x q. c.tables ∙ cut-refused before linkIndex x (sym c.replied ∙ q);
    }

-- ---- reading out

-- of sets that have no part past so many, the rule is the one of the row's answer
occur-rule : (parts : ℕ) (t : List ℕ) → parts ≤ 32 → SetsFit (length t) parts t → occur_or_none parts t ≡ all_or_none (length t) parts t
unfolding occur_or_none all_or_none
occur-rule parts t few fits = rw (occur-size parts few t fits, replicate-tabulate (length t))

pub table-held : {m : Machine} {s : State} → Holds m s → table_in s.fixed s.sets ≡ machine_table m
unfolding machine_table answer_of problem_by board_left chosen
table-held {m} {s} h =
    let last : List ℕ = last_table m.pattern (board_left m) (everything (board_left m)) in
    let fits = last_fits m.pattern (board_left m) (everything (board_left m)) in
    ap₂ (λ (k n : ℕ). occur_or_none k (take n s.sets)) (parts_held h) (nodes-held h)
    ∙ ap (occur_or_none (length m.pattern.labels)) h.table
    ∙ occur-rule (length m.pattern.labels) last h.pattern.nodes (rw fits.size fits)
    ∙ ap (λ (n : ℕ). all_or_none n (length m.pattern.labels) last) fits.size

read-refused : (v : Verdict) (values table before : List ℕ) (x : Refusal) → (reply v values).verdict ≡ refuse x → filled v table before ≡ before
unfolding reply filled
read-refused accept values table before x q = absurd (accept-not-refuse q)
read-refused (refuse y) values table before x q = refl

pub read-promise :
    {fixed sets before : List ℕ} {answer : Reply} {after : List ℕ} → ReadMade fixed sets before answer after →
    (offsets numbers ends : List ℕ) → ReadPromise (state fixed offsets numbers ends sets) before answer after
read-promise {fixed} {sets} {before} c offsets numbers ends =
    record {
      machine =
          λ m h.
          let nodes = nodes-held h in
          (c.replied ∙ rw nodes refl, c.table ∙ ap₂ (λ (n : ℕ) (t : List ℕ). filled (first (short_table n (length before) ∷ [])) t before) nodes (table-held h));
      refused = λ x q. c.table ∙ read-refused (read_verdict fixed before) _ _ before x (ap (λ (a : Reply). a.verdict) (sym c.replied) ∙ q);
    }
