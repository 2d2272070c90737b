-- A cut on the tables that hold a machine: they say whether the link is left, and where it is, striking on from the last table leads to the tables of
-- the machine without it. Assumes nothing.
use Rattle.std.specs.Prelude.{◌≡◌, ◌&&◌, ◌++◌, ◌≤◌, ◌<◌, ◌+◌}
use Rattle.base_lists.specs.Kit.{◌∙◌, sym, ap, refl, subst, ap₂, Bool, false, true, cond, List, ℕ, T, ltb, length, get_or, take, drop, set, length-set, take_at, get_or-take, get_or-drop, arith, le-ltb, lt-ltb, ltb-false, ltb-true}
use Rattle.base_lists.specs.List.{part}
use Rattle.base_lists.proofs.Tests.{T_true, true-T, false-T}
use Rattle.base_lists.proofs.Entries.{all-below, all-below-at}
use Rattle.base_bits.specs.Bits.{union_at}
use Rattle.graph.specs.Chosen.{chosen}
use Rattle.graph.specs.Search.{far}
use Rattle.file_format.proofs.Accepted.{bounded-starts, bounded-ends}
use Rattle.simulation.specs.Simulation.{Direction, forwards, backwards}
use Rattle.table.specs.First.{Begins}
use Rattle.table.specs.Host.{everything}
use Rattle.table.specs.Prepared.{succ_of, pred_of}
use Rattle.table.specs.Row.{last_table}
use Rattle.table_strike.specs.Strike.{survivors}
use Rattle.table.proofs.Meaning.{last_fits}
use Rattle.session_strike.specs.Going.{MovesFollow, UnmarkedKept}
use Rattle.session_strike.specs.Moves.{moves_in, next_set_at, node_marked, mark_both, settled_from}
use Rattle.session_strike.proofs.Going.{from_last}
use Rattle.session_strike.proofs.Marking.{both_first, both-second}
use Rattle.session_strike.proofs.Striking.{last_rest}
use Rattle.session.specs.Machine.{Machine, is_left, take_out, board_left}
use Rattle.session.specs.State.{State, Holds, end_left, takes, ends_without, link_out}
use Rattle.session.proofs.Left.{left_below, left-fewer}
use Rattle.session.proofs.Links.{linked-leads, linked-out, moves-apart}
use Rattle.session.proofs.Fewer.{fewer-begins}

-- a place that is too large for any board is that of no link
place_out : (m : Machine) (linkIndex : ℕ) → length m.board.starts ≤ linkIndex → is_left m linkIndex ≡ false
unfolding is_left
place_out m linkIndex h = rw (le-ltb linkIndex (length m.board.starts) h)

module _ {m : Machine} {s : State} (holds : Holds m s) (linkIndex : ℕ) where
  -- ---- whether the link is left

  nodes-few : length m.board.labels ≤ 512
  nodes-few = holds.board.nodes

  links-few : length m.board.starts ≤ 4096
  links-few = holds.board.links

  entry : linkIndex < 4096 → get_or s.ends linkIndex far ≡ end_left m m.board.ends linkIndex
  unfolding part
  entry h = sym (get_or-take 4096 s.ends linkIndex far h) ∙ holds.links.at_ends linkIndex

  end_below : T (is_left m linkIndex) → get_or m.board.ends linkIndex 0 < length m.board.labels
  end_below t = all-below-at (length m.board.labels) m.board.ends linkIndex (bounded-ends holds.board) (omega (arith, left_below m linkIndex t, holds.board.parallel))

  -- the tables say so
  pub takes-left : takes s.ends (length m.board.labels) linkIndex ≡ is_left m linkIndex
  unfolding takes end_left
  takes-left = go (ltb linkIndex 4096) refl (is_left m linkIndex) refl
    where
      go : (a : Bool) → ltb linkIndex 4096 ≡ a → (b : Bool) → is_left m linkIndex ≡ b → a && ltb (get_or s.ends linkIndex far) (length m.board.labels) ≡ b
      go true l true e = ap (λ (x : ℕ). ltb x (length m.board.labels)) (entry (ltb-true linkIndex 4096 l) ∙ ap (λ (c : Bool). cond c (get_or m.board.ends linkIndex 0) far) e) ∙ lt-ltb _ _ (end_below (true-T e))
      go true l false e = ap (λ (x : ℕ). ltb x (length m.board.labels)) (entry (ltb-true linkIndex 4096 l) ∙ ap (λ (c : Bool). cond c (get_or m.board.ends linkIndex 0) far) e) ∙ le-ltb far (length m.board.labels) (omega (arith, nodes-few))
      go false l b e = sym (place_out m linkIndex (omega (arith, ltb-false linkIndex 4096 l, links-few))) ∙ e

  -- ---- where it is left

  module _ (t : T (is_left m linkIndex)) where
    inside-links : linkIndex < 4096
    inside-links = omega (arith, left_below m linkIndex t, links-few)

    -- its two entries are its ends
    pub end-at : get_or s.ends linkIndex far ≡ get_or m.board.ends linkIndex 0
    unfolding end_left
    end-at = entry inside-links ∙ ap (λ (c : Bool). cond c (get_or m.board.ends linkIndex 0) far) (T_true {b = is_left m linkIndex} t)

    pub start-at : get_or s.ends (4096 + linkIndex) far ≡ get_or m.board.starts linkIndex 0
    unfolding end_left part
    start-at =
        sym (get_or-drop 4096 s.ends linkIndex far)
        ∙ sym (get_or-take 4096 (drop 4096 s.ends) linkIndex far inside-links)
        ∙ holds.links.at_starts linkIndex
        ∙ ap (λ (c : Bool). cond c (get_or m.board.starts linkIndex 0) far) (T_true {b = is_left m linkIndex} t)

    abbrev m' : Machine
    m' = take_out m linkIndex

    abbrev moves : Direction → ℕ → List ℕ
    moves = moves_in s.offsets s.numbers s.ends

    abbrev moves' : Direction → ℕ → List ℕ
    moves' = moves_in s.offsets s.numbers (ends_without s.ends linkIndex)

    abbrev masks : List ℕ
    masks = take 64 s.fixed

    follows : MovesFollow m.pattern (board_left m) masks moves
    unfolding board_left chosen
    follows =
        record {
          parts = holds.pattern.nodes;
          starts = all-below _ m.pattern.starts (bounded-starts holds.pattern);
          ends = all-below _ m.pattern.ends (bounded-ends holds.pattern);
          masked = holds.masked;
          leads = linked-leads m holds.links holds.board.parallel nodes-few;
        }

    follows' : MovesFollow m.pattern (board_left m') masks moves'
    unfolding board_left chosen take_out
    follows' =
        record {
          parts = holds.pattern.nodes;
          starts = all-below _ m.pattern.starts (bounded-starts holds.pattern);
          ends = all-below _ m.pattern.ends (bounded-ends holds.pattern);
          masked = holds.masked;
          leads = linked-leads m' (linked-out m holds.links linkIndex inside-links) holds.board.parallel nodes-few;
        }

    abbrev old : List ℕ
    old = last_table m.pattern (board_left m) (everything (board_left m))

    begins : Begins m.pattern (board_left m') (everything (board_left m')) old
    unfolding board_left take_out
    begins = fewer-begins m.board m.left (set m.left linkIndex 0) (left-fewer m linkIndex) m.pattern holds.pattern.nodes

    old-long : length old ≡ length m.board.labels
    unfolding board_left chosen
    old-long = (last_fits m.pattern (board_left m) (everything (board_left m))).size

    covered : UnmarkedKept masks moves' old (mark_both (length old) (get_or m.board.starts linkIndex 0) (get_or m.board.ends linkIndex 0))
    unfolding UnmarkedKept next_set_at board_left chosen
    covered v h q =
        let n : v < length m.board.labels = rw old-long at h in
        let x : ℕ = get_or m.board.starts linkIndex 0 in
        let y : ℕ = get_or m.board.ends linkIndex 0 in
        let few : length old ≤ 512 = omega (arith, old-long, nodes-few) in
        let apart = moves-apart m holds.links linkIndex inside-links holds.board.parallel v n
        (λ e. false-T q (subst (λ (w : ℕ). T (node_marked (mark_both (length old) x y) w)) e (both_first (length old) x y few (rw e h))))
        (λ e. false-T q (subst (λ (w : ℕ). T (node_marked (mark_both (length old) x y) w)) e (both-second (length old) x y few (rw e h)))) in
        ap₂ (λ (a b : List ℕ). survivors (succ_of masks) (pred_of masks) (union_at old a) (union_at old b) (get_or old v 0)) (apart forwards) (apart backwards)
        ∙ last_rest m.pattern (board_left m) follows v n

    -- striking on leads to the last table without the link
    pub cut-last :
        settled_from masks moves' (take (length m.board.labels) s.sets) (get_or s.ends (4096 + linkIndex) far) (get_or s.ends linkIndex far)
        ≡ last_table m.pattern (board_left m') (everything (board_left m'))
    cut-last =
        rw (holds.table, start-at, end-at)
        (from_last m.pattern (board_left m') follows' old (get_or m.board.starts linkIndex 0) (get_or m.board.ends linkIndex 0) (omega (arith, old-long, nodes-few)) begins covered)

    -- so that the tables hold the machine without it
    abbrev new : List ℕ
    new = last_table m.pattern (board_left m') (everything (board_left m'))

    pub cut_holds : Holds m' (link_out s linkIndex (new ++ drop (length m.board.labels) s.sets))
    unfolding take_out board_left chosen
    cut_holds =
        record {
          pattern = holds.pattern;
          board = holds.board;
          bytes = length-set m.left linkIndex 0 ∙ holds.bytes;
          masked = holds.masked;
          parts = holds.parts;
          nodes = holds.nodes;
          links = linked-out m holds.links linkIndex inside-links;
          table = take_at new _ (length m.board.labels) (last_fits m.pattern (board_left m') (everything (board_left m'))).size;
        }
