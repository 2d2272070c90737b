-- Breadth-first search finds the distances: what it leaves for each node is `far`, where every walk to the node is longer than the radius,
-- and else the length of a shortest walk. The nodes are any n numbers, and the links any relation that the adjacency function lists.
-- Assumes nothing.
use Rattle.std.specs.Prelude.{◌≡◌, ◌⊎◌, ◌||◌, ◌≤◌, ◌<◌, ◌+◌}
use Rattle.base_lists.specs.Kit.{◌∙◌, sym, ap, refl, subst, ⊎_elim, inl, inr, Bool, false, true, List, [], ℕ, suc, zero, zero-le, le_refl, eq-or-lt_of_le, add-zero, zero-add, add-suc, suc-add, le-suc_iff, T, eqb, length, get_or, drop, replicate, length-replicate, get_or-replicate, get_or-set_other, get_or-set_same, arith, eq-eqb, ne_eqb, eqb-true, eqb-false}
use Rattle.base_lists.proofs.Tests.{T_true, true-T, lt-or-le}
use Rattle.graph.specs.Graph.{Walk, stay, step}
use Rattle.graph.specs.Search.{far}
use Rattle.base_lists.specs.List.{Below}
use Rattle.base_lists.proofs.Entries.{below-drop}
use Rattle.graph.specs.Bfs.{SearchState, level, levels, start, bfs, SearchReady, Adjacency, Measured}
use Rattle.graph.proofs.BfsSteps.{levels-end, ready-level, ready-start}
use Rattle.graph.proofs.BfsScan.{elem, elem-nil, elem-snoc, elem-occurs, occurs-elem, below-elem, targets, targets-from, to-targets, level-scan, after, after-cases, after-new, after-old, scan-dist, Frontier, frontier-none, frontier-empty, frontier-scan}

-- ---- walks

-- the last link of a walk
walk-last : {Link : ℕ → ℕ → Type 0} {v w k : ℕ} → Walk Link v w (suc k) → (f : ℕ) × Walk Link v f k × (Link f w ⊎ Link w f)
walk-last (step {w = f} p l) = (f, p, l)

-- a walk of no links goes nowhere
walk_none : {Link : ℕ → ℕ → Type 0} {v w k : ℕ} → Walk Link v w k → k ≡ 0 → w ≡ v
walk_none stay e = refl
walk_none (step p l) e = absurd (let z = e in omega arith)

-- ---- the invariant of the levels: what is known when the nodes within distance d are reached, and those at distance d are the frontier

record Inv (n c : ℕ) (Link : ℕ → ℕ → Type 0) (d lo : ℕ) (s : SearchState) : Type 0 where
  ready : SearchReady n s
  -- each level so far has reached a node
  early : d ≤ lo
  prefix : Frontier n lo d s
  -- each entry is a walk's length, at most d
  sound : (w : ℕ) → w < n → (get_or s.dist w 0 ≡ far) ⊎ (Walk Link c w (get_or s.dist w 0) × (get_or s.dist w 0 ≤ d))
  -- and no walk of at most d links is shorter
  least : (w k : ℕ) → k ≤ d → Walk Link c w k → get_or s.dist w 0 ≤ k

-- what a search up to distance r leaves
record Done (n c : ℕ) (Link : ℕ → ℕ → Type 0) (r : ℕ) (s : SearchState) : Type 0 where
  ready : SearchReady n s
  measured : (w : ℕ) → w < n → Measured Link c r w (get_or s.dist w 0)

module _ (n c : ℕ) (adj : ℕ → List ℕ) (Link : ℕ → ℕ → Type 0) (small : n < far) (centre : c < n) (A : Adjacency n adj Link) where
  -- what a link joins to a node is among the node's neighbours, and is a node
  beside : (f w : ℕ) → f < n → Link f w ⊎ Link w f → T (elem w (adj f))
  beside f w h l = occurs-elem w (adj f) ((A.joined f w h).1 l)

  beside-inside : (f w : ℕ) → f < n → Link f w ⊎ Link w f → w < n
  beside-inside f w h l = below-elem n w (adj f) (A.inside f h) (beside f w h l)

  walk_inside : {v w k : ℕ} → Walk Link v w k → v < n → w < n
  walk_inside stay h = h
  walk_inside (step {w = f} {x = w} p l) h = beside-inside f w (walk_inside p h) l

  -- ---- one level

  module _ (d lo : ℕ) (s : SearchState) (I : Inv n c Link d lo s) where
    -- the entries and the frontier before the level, the nodes that it visits, and the state after it
    abbrev D : ℕ → ℕ
    D w = get_or s.dist w 0

    abbrev F : List ℕ
    F = drop lo s.reached

    abbrev xs : List ℕ
    xs = targets adj F

    abbrev next : SearchState
    next = level adj (suc d) s F

    -- d is the distance of a node, and no distance is `far`
    d_small : d < far
    d_small =
        let a = I.early in
        let b = I.prefix.within in
        let e = I.ready.counted in
        omega arith

    F-inside : Below n F
    F-inside = below-drop n s.reached lo I.ready.inside

    -- the entries after the level
    next-dist : (w : ℕ) → get_or next.dist w 0 ≡ after (suc d) (D w) (elem w xs)
    next-dist w = ap (λ (t : SearchState). get_or t.dist w 0) (level-scan adj (suc d) s F) ∙ scan-dist (suc d) s xs w

    -- a node that has been reached has a walk as long as its entry says
    walk-to : (f : ℕ) → f < n → D f ≤ d → Walk Link c f (D f)
    walk-to f h l = ⊎_elim (λ e. absurd (let z = d_small in omega arith)) (λ p. p.0) (I.sound f h)

    -- the neighbours of the frontier have a walk of one link more than d
    reach : (w : ℕ) → T (elem w xs) → Walk Link c w (suc d)
    reach w t =
        let o = targets-from adj w F t in
        let f = o.0 in
        let h : f < n = below-elem n f F F-inside o.1 in
        let e : D f ≡ d = eqb-true (D f) d (sym (I.prefix.exact f h) ∙ T_true o.1) in
        let p : Walk Link c f d = subst (λ (k : ℕ). Walk Link c f k) e (walk-to f h (omega arith)) in
        step p ((A.joined f w h).0 (elem-occurs w (adj f) o.2))

    -- so each entry after the level is the length of a walk
    next-sound : (w : ℕ) → w < n → (get_or next.dist w 0 ≡ far) ⊎ (Walk Link c w (get_or next.dist w 0) × (get_or next.dist w 0 ≤ suc d))
    next-sound w h =
        subst P (sym (next-dist w))
        (after-cases P (suc d) (D w) (elem w xs) (λ _ t. inr (reach w (true-T t), le_refl (suc d)))
        (⊎_elim inl (λ p. inr (p.0, let l = p.1 in omega arith)) (I.sound w h)))
      where
        P : ℕ → Type 0
        P x = (x ≡ far) ⊎ (Walk Link c w x × (x ≤ suc d))

    -- a walk to a node that is not reached comes from the frontier
    from-prefix : (w f : ℕ) → D w ≡ far → Walk Link c f d → Link f w ⊎ Link w f → T (elem w xs)
    from-prefix w f e p l =
        let h : f < n = walk_inside p centre in
        to-targets adj f w F
        (true-T (I.prefix.exact f h ∙ eq-eqb (D f) d (at-d h (I.least f d (le_refl d) p))))
        (beside f w h l)
      where
        at-d : f < n → D f ≤ d → D f ≡ d
        at-d h a =
            ⊎_elim (λ q. q)
            (λ q. absurd (let z = d_small in let b = I.least w (suc (D f)) q (step (walk-to f h a) l) in omega arith))
            (eq-or-lt_of_le a)

    -- a node that has been reached keeps its entry
    next-kept : (w : ℕ) → D w ≤ d → get_or next.dist w 0 ≡ D w
    next-kept w a = next-dist w ∙ after-old (suc d) (D w) (elem w xs) (λ e. let z = d_small in omega arith)

    -- and no walk of at most one link more than d is shorter
    next-least : (w k : ℕ) → k ≤ suc d → Walk Link c w k → get_or next.dist w 0 ≤ k
    next-least w k h p = ⊎_elim near (λ q. last q (walk-last (subst (λ (j : ℕ). Walk Link c w j) q p))) (le-suc_iff.0 h)
      where
        near : k ≤ d → get_or next.dist w 0 ≤ k
        near q = let a = I.least w k q p in rw (next-kept w (omega arith)) a

        last : k ≡ suc d → (f : ℕ) × Walk Link c f d × (Link f w ⊎ Link w f) → get_or next.dist w 0 ≤ k
        last q o =
            ⊎_elim
            (λ e. rw (next-dist w, after-new (suc d) (D w) (elem w xs) e (T_true (from-prefix w o.0 e o.1 o.2))) (omega arith))
            (λ a. rw (next-kept w a.1) (let b = a.1 in omega arith))
            (I.sound w (walk_inside p centre))

    -- the level, from a frontier that is not empty
    next-inv : lo < length s.reached → Inv n c Link (suc d) (length s.reached) next
    next-inv more = record {
      ready = ready-level n adj (suc d) s F A.inside I.ready F-inside suc-small;
      early = let a = I.early in omega arith;
      prefix = subst (Frontier n (length s.reached) (suc d)) (sym (level-scan adj (suc d) s F)) (frontier-scan n (length s.reached) (suc d) s xs (frontier-none n (suc d) s unused));
      sound = next-sound;
      least = next-least;
    }
      where
        suc-small : suc d < far
        suc-small =
            let a = I.early in
            let e = I.ready.counted in
            omega arith

        unused : (w : ℕ) → w < n → D w ≡ suc d → ⊥
        unused w h q = ⊎_elim (λ e. let z = suc-small in omega arith) (λ a. let b = a.1 in omega arith) (I.sound w h)

    -- ---- the end of the search

    -- at distance d all is found that a search up to d shall find
    done-here : Done n c Link d s
    done-here = record { ready = I.ready; measured = λ w h. ⊎_elim (λ e. inl (e, far_from w e)) (λ p. inr (p.0, shortest w p.1, p.1)) (I.sound w h) }
      where
        far_from : (w : ℕ) → D w ≡ far → (k : ℕ) → Walk Link c w k → d < k
        far_from w e k p = ⊎_elim (λ q. q) (λ q. absurd (let z = d_small in let a = I.least w k q p in omega arith)) (lt-or-le d k)

        shortest : (w : ℕ) → D w ≤ d → (k : ℕ) → Walk Link c w k → D w ≤ k
        shortest w a k p = ⊎_elim (λ q. omega arith) (λ q. I.least w k q p) (lt-or-le d k)

    -- from an empty frontier no walk leads further
    closed : length s.reached ≤ lo → {v w k : ℕ} → Walk Link v w k → v ≡ c → (w < n) × (D w ≤ d) × (D w ≤ k)
    closed none (stay {v}) q =
        let a = I.least v 0 zero-le (subst (λ (u : ℕ). Walk Link u v 0) q stay) in
        (rw q centre, omega arith, a)
    closed none (step {w = f} {x = w} p l) q =
        let i = closed none p q in
        let ne = frontier-empty n lo d s I.prefix none f i.0 in
        let lt : D f < d = omega arith in
        let a = I.least w (suc (D f)) lt (step (walk-to f i.0 i.1) l) in
        (beside-inside f w i.0 l, omega arith, omega arith)

    -- so the search may stop, whatever the radius
    done-early : (r : ℕ) → length s.reached ≤ lo → d ≤ r → Done n c Link r s
    done-early r none m = record { ready = I.ready; measured = λ w h. ⊎_elim (λ e. inl (e, far_from w e)) (λ p. inr (p.0, λ k q. (closed none q refl).2, let l = p.1 in omega arith)) (I.sound w h) }
      where
        far_from : (w : ℕ) → D w ≡ far → (k : ℕ) → Walk Link c w k → r < k
        far_from w e k p = absurd (let z = d_small in let a = (closed none p refl).1 in omega arith)

  -- ---- all levels

  -- by induction on the levels that are left
  levels-done : (r d lo : ℕ) (s : SearchState) → Inv n c Link d lo s → Done n c Link (d + r) (levels adj r d lo s)
  unfolding levels
  levels-done zero d lo s I = rw add-zero (done-here d lo s I)
  levels-done (suc r) d lo s I = ⊎_elim
      (λ more. rw (add-suc, ← suc-add) (levels-done r (suc d) (length s.reached) (level adj (suc d) s (drop lo s.reached)) (next-inv d lo s I more)))
      (λ none. rw (levels-end adj (suc r) d lo s none) (done-early d lo s I (d + suc r) none (omega arith)))
      (lt-or-le lo (length s.reached))

  -- at the start the centre has entry 0, and any other node `far`
  start-centre : get_or (start n c).dist c 0 ≡ 0
  unfolding start
  start-centre = get_or-set_same (replicate n far) c 0 0 (rw length-replicate centre)

  start-other : (w : ℕ) → w < n → (c ≡ w → ⊥) → get_or (start n c).dist w 0 ≡ far
  unfolding start
  start-other w h e = get_or-set_other (replicate n far) c w 0 0 (λ q. e (sym q)) ∙ get_or-replicate n w far 0 h

  -- a node is the centre or is another
  start-cases : (P : ℕ → ℕ → Type 0) → P c 0 → ((w : ℕ) → (c ≡ w → ⊥) → P w far) → (w : ℕ) → w < n → P w (get_or (start n c).dist w 0)
  start-cases P here there w h = go (eqb c w) refl
    where
      go : (b : Bool) → eqb c w ≡ b → P w (get_or (start n c).dist w 0)
      go true q = subst (λ (u : ℕ). P u (get_or (start n c).dist u 0)) (eqb-true c w q) (rw start-centre here)
      go false q = let e = eqb-false c w q in rw (start-other w h e) (there w e)

  start-reached : (w : ℕ) → elem w (start n c).reached ≡ eqb c w
  unfolding start
  start-reached w = elem-snoc w [] c ∙ ap (λ (b : Bool). b || eqb c w) (elem-nil w)

  start-inv : Inv n c Link 0 0 (start n c)
  start-inv = record {
    ready = ready-start n c centre;
    early = zero-le;
    prefix = record { within = zero-le; exact = start-cases (λ (w x : ℕ). elem w (start n c).reached ≡ eqb x 0) (start-reached c ∙ eq-eqb c c refl) (λ w e. start-reached w ∙ ne_eqb c w e) };
    sound = start-cases (λ (w x : ℕ). (x ≡ far) ⊎ (Walk Link c w x × (x ≤ 0))) (inr (stay, zero-le)) (λ w e. inl refl);
    least = λ w k h p. let e = walk_none p (omega arith) in rw (e, start-centre) zero-le;
  }

  -- ---- the search

  search-done : (r : ℕ) → Done n c Link r (bfs adj n c r)
  unfolding bfs
  search-done r = rw zero-add at (levels-done r 0 0 (start n c) start-inv)

  -- the search finds of each node what it shall
  pub bfs-measured : (r v : ℕ) → v < n → Measured Link c r v (get_or (bfs adj n c r).dist v 0)
  bfs-measured r = (search-done r).measured

  -- it leaves an entry for each node, and counts the nodes that it reaches
  pub bfs-ready : (r : ℕ) → SearchReady n (bfs adj n c r)
  bfs-ready r = (search-done r).ready
