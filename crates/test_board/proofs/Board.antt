-- What the test board is: N nodes, a link exactly where its pair was drawn, rising, no more than M, and within what a board may have. Assumes nothing.
use Rattle.std.specs.Prelude.{◌≡◌, ◌↔◌, ◌&&◌, ◌≤◌, ◌<◌, ◌+◌, ◌*◌}
use Rattle.base_lists.specs.Kit.{◌∙◌, sym, ap, refl, subst, Bool, List, ℕ, T, eqb, ltb, eqb→eq, leb, lt→ltb, le→leb, leb→le, length, get_or, arith, eq-eqb}
use Rattle.base_lists.specs.List.{all}
use Rattle.base_lists.proofs.Tests.{both_true, both_left, both_right, true-T, at_all, any_below-at, at-any_below}
use Rattle.graph.specs.Circuit.{HasLink}
use Rattle.graph.specs.Rising.{LinksRise}
use Rattle.graph.proofs.Pairs.{length-pair-starts, length-pair-ends, pairs-le, pair-link, pairs-rise}
use Rattle.file_format.specs.Links.{links_below, rising}
use Rattle.file_format.proofs.Rising.{rise-test}
use Rattle.test_board.specs.Generator.{draw, stepped}
use Rattle.test_board.specs.Board.{sizes_in_range, InRange, kinds_drawn, pairs_drawn, is_pair, test_board, PairDrawn}
use Rattle.test_board.proofs.Generator.{length-draws, draws-at, draws-lt, draw-lt, stepped-add}

-- ---- the ranges

pub in-range : (n m k : ℕ) → T (sizes_in_range n m k) → InRange n m k
unfolding sizes_in_range
in-range n m k t =
    let t1 = both_right (leb 1 n) _ t in
    let t2 = both_right (leb n 512) _ t1 in
    let t3 = both_right (leb m 4096) _ t2 in
    record {
      some_nodes = leb→le 1 n (both_left (leb 1 n) _ t);
      nodes = leb→le n 512 (both_left (leb n 512) _ t1);
      links = leb→le m 4096 (both_left (leb m 4096) _ t2);
      some_kinds = leb→le 1 k (both_left (leb 1 k) _ t3);
      kinds = leb→le k 65536 (both_right (leb 1 k) _ t3);
    }

pub range-in : (n m k : ℕ) → InRange n m k → T (sizes_in_range n m k)
unfolding sizes_in_range
range-in n m k r =
    both_true (leb 1 n) _ (le→leb 1 n r.some_nodes)
    (both_true (leb n 512) _ (le→leb n 512 r.nodes)
    (both_true (leb m 4096) _ (le→leb m 4096 r.links)
    (both_true (leb 1 k) (leb k 65536) (le→leb 1 k r.some_kinds) (le→leb k 65536 r.kinds))))

-- ---- the pairs of a list

pub pair-iff :
    (list : List ℕ) (m a b : ℕ) →
    T (is_pair list m a b) ↔ ((j : ℕ) × (j < m) × (get_or list (2 * j) 0 ≡ a) × (get_or list (2 * j + 1) 0 ≡ b))
unfolding is_pair
pair-iff list m a b = (
  λ t.
      let (j, h, s) = any_below-at m passes t in
      (j, h, eqb→eq _ a (both_left (starts j) (ends j) s), eqb→eq _ b (both_right (starts j) (ends j) s)),
  λ (j, h, e, e'). at-any_below m passes j h (both_true (starts j) (ends j) (true-T (eq-eqb _ a e)) (true-T (eq-eqb _ b e'))),
)
  where
    starts : ℕ → Bool
    starts j = eqb (get_or list (2 * j) 0) a

    ends : ℕ → Bool
    ends j = eqb (get_or list (2 * j + 1) 0) b

    passes : ℕ → Bool
    passes j = starts j && ends j

-- ---- the circuit

module _ (seed n m k : ℕ) where
  abbrev drawn : ℕ → ℕ → Bool
  drawn = is_pair (pairs_drawn seed n m) m

  -- it has N nodes
  pub test_board-nodes : length (test_board seed n m k).labels ≡ n
  unfolding test_board kinds_drawn
  test_board-nodes = length-draws seed k n

  pub test_board-parallel : length (test_board seed n m k).starts ≡ length (test_board seed n m k).ends
  unfolding test_board
  test_board-parallel = length-pair-starts n drawn ∙ sym (length-pair-ends n drawn)

  -- no more links than pairs were drawn
  pub test_board-links : length (test_board seed n m k).starts ≤ m
  unfolding test_board
  test_board-links =
      rw length-pair-starts
      (pairs-le n drawn m (λ j. get_or (pairs_drawn seed n m) (2 * j) 0) (λ j. get_or (pairs_drawn seed n m) (2 * j + 1) 0) (λ a b. (pair-iff _ m a b).0))

  -- each kind is one of 16 bits below K
  pub test_board-kinds : 1 ≤ k → (i : ℕ) → i < n → get_or (test_board seed n m k).labels i 0 < k
  unfolding test_board kinds_drawn
  test_board-kinds some i h = draws-lt seed k n i some h

  -- the starts and the ends, by the number of their draw
  start-at : (j : ℕ) → j < m → get_or (pairs_drawn seed n m) (2 * j) 0 ≡ draw n (stepped seed (n + 2 * j + 1))
  unfolding pairs_drawn
  start-at j h =
      let e : n + (2 * j + 1) ≡ n + 2 * j + 1 = omega arith in
      draws-at (stepped seed n) n (2 * m) (2 * j) (omega arith) ∙ ap (draw n) (stepped-add seed n (2 * j + 1) ∙ ap (stepped seed) e)

  end-at : (j : ℕ) → j < m → get_or (pairs_drawn seed n m) (2 * j + 1) 0 ≡ draw n (stepped seed (n + 2 * j + 2))
  unfolding pairs_drawn
  end-at j h =
      let e : n + (2 * j + 1 + 1) ≡ n + 2 * j + 2 = omega arith in
      draws-at (stepped seed n) n (2 * m) (2 * j + 1) (omega arith) ∙ ap (draw n) (stepped-add seed n (2 * j + 1 + 1) ∙ ap (stepped seed) e)

  -- the pairs of the list are those drawn
  drawn-iff : (a b : ℕ) → T (drawn a b) ↔ PairDrawn seed n m a b
  unfolding PairDrawn
  drawn-iff a b = (
    λ t. let (j, h, e, e') = (pair-iff _ m a b).0 t in (j, h, sym (start-at j h) ∙ e, sym (end-at j h) ∙ e'),
    λ (j, h, e, e'). (pair-iff _ m a b).1 (j, h, start-at j h ∙ e, end-at j h ∙ e'),
  )

module _ (seed n m k : ℕ) (some : 1 ≤ n) where
  -- "The file's links are the pairs drawn": a link exactly where that pair was drawn,
  pub test_board-link : (a b : ℕ) → HasLink (test_board seed n m k).starts (test_board seed n m k).ends a b ↔ PairDrawn seed n m a b
  unfolding test_board PairDrawn
  test_board-link a b = (
    λ l. (drawn-iff seed n m k a b).0 ((pair-link n some (drawn seed n m k) a b).0 l).2,
    λ d.
        let (j, h, e, e') = d in
        (pair-link n some (drawn seed n m k) a b).1 (
          subst (λ x. x < n) e (draw-lt n _ some),
          subst (λ x. x < n) e' (draw-lt n _ some),
          (drawn-iff seed n m k a b).1 d,
        ),
  )

  -- "each once, in the file's order": each comes before every later one
  pub test_board-rise : LinksRise (test_board seed n m k).starts (test_board seed n m k).ends
  unfolding test_board
  test_board-rise = pairs-rise n some (drawn seed n m k)

  -- from a node to a node
  pub board-start-lt : (i : ℕ) → i < length (test_board seed n m k).starts → get_or (test_board seed n m k).starts i 0 < n
  unfolding test_board HasLink
  board-start-lt i h =
      ((pair-link n some (drawn seed n m k) _ _).0 (i, record { in_starts = h; in_ends = rw (← test_board-parallel seed n m k) h; start = refl; end = refl })).0

  pub board-end-lt : (i : ℕ) → i < length (test_board seed n m k).ends → get_or (test_board seed n m k).ends i 0 < n
  unfolding test_board HasLink
  board-end-lt i h =
      ((pair-link n some (drawn seed n m k) _ _).0 (i, record { in_starts = rw (test_board-parallel seed n m k) h; in_ends = h; start = refl; end = refl })).1

  pub board-below : T (links_below (length (test_board seed n m k).labels) (test_board seed n m k).starts (test_board seed n m k).ends)
  unfolding links_below
  board-below =
      let l = test_board seed n m k in
      rw test_board-nodes
      (both_true (all (λ v. ltb v n) l.starts) (all (λ v. ltb v n) l.ends)
      (at_all _ l.starts (λ i h. lt→ltb _ _ (board-start-lt i h)))
      (at_all _ l.ends (λ i h. lt→ltb _ _ (board-end-lt i h))))

  pub board-rises : T (rising (test_board seed n m k).starts (test_board seed n m k).ends)
  board-rises = rise-test _ _ test_board-rise
