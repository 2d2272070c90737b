-- The list of the nodes that a search has reached agrees with the entries: it has each node whose entry is not `far`, and each once.
-- Assumes nothing.
use Rattle.std.specs.Prelude.{◌≡◌, ◌⊎◌, ◌∷◌, ◌++◌, ◌≤◌, ◌<◌, ◌+◌}
use Rattle.base_lists.specs.Kit.{◌∙◌, sym, ap, refl, subst, ⊎_elim, inl, inr, List, [], ℕ, suc, zero, zero-le, suc-le-suc, le_refl, zero-lt-suc, length, get_or, drop, set, length-append, replicate, length-replicate, get_or-replicate, get_or-append, get_or-set_other, get_or-set_same, get_or-append_seam, arith}
use Rattle.base_lists.specs.List.{Occurs, Below}
use Rattle.base_lists.proofs.Entries.{occurs-one, one-occurs, below-drop}
use Rattle.base_lists.proofs.Tests.{lt-or-le, eq-or-not}
use Rattle.graph.specs.Search.{far}
use Rattle.graph.specs.Bfs.{SearchState, visit, scan, level, levels, start, bfs, SearchReady}
use Rattle.graph.proofs.BfsSteps.{visit-cases, levels-end, ready-visit, ready-scan, ready-level, ready-start, extends-level, extends-length}
use Rattle.graph.proofs.BfsScan.{occurs-append}

-- a node has been reached: its entry is not `far`
abbrev pub Near : SearchState → ℕ → Type 0
Near s v = get_or s.dist v 0 ≡ far → ⊥

pub record Listed (n : ℕ) (s : SearchState) : Type 0 where
  pub near : (v : ℕ) → Occurs s.reached v → Near s v
  pub complete : (v : ℕ) → v < n → Near s v → Occurs s.reached v
  pub distinct : (i j : ℕ) → i < j → j < length s.reached → get_or s.reached i 0 ≡ get_or s.reached j 0 → ⊥

module _ (n : ℕ) where
  -- ---- a visit of a node that is not reached yet

  module _ (d : ℕ) (s : SearchState) (v : ℕ) (k : SearchReady n s) (l : Listed n s) (h : v < n) (small : d < far) (e : get_or s.dist v 0 ≡ far) where
    abbrev next : SearchState
    next = record { dist = set s.dist v d; reached = s.reached ++ (v ∷ []) }

    at-v : (w : ℕ) → v ≡ w → get_or next.dist w 0 ≡ d
    at-v w q = subst (λ (x : ℕ). get_or next.dist x 0 ≡ d) q (get_or-set_same s.dist v d 0 (rw k.size h))

    elsewhere : (w : ℕ) → (v ≡ w → ⊥) → get_or next.dist w 0 ≡ get_or s.dist w 0
    elsewhere w f = get_or-set_other s.dist v w d 0 (λ q. f (sym q))

    -- the new node is not in the list yet
    fresh : (w : ℕ) → Occurs s.reached w → v ≡ w → ⊥
    fresh w o q = l.near w o (ap (λ (x : ℕ). get_or s.dist x 0) (sym q) ∙ e)

    next-near : (w : ℕ) → Occurs next.reached w → Near next w
    next-near w o =
        ⊎_elim
        (λ p q. l.near w p (sym (elsewhere w (fresh w p)) ∙ q))
        (λ p q. let z = at-v w (occurs-one v w p) in omega arith)
        ((occurs-append w s.reached (v ∷ [])).0 o)

    next-complete : (w : ℕ) → w < n → Near next w → Occurs next.reached w
    next-complete w m f =
        (occurs-append w s.reached (v ∷ [])).1
        (⊎_elim
        (λ q. inr (subst (Occurs (v ∷ [])) q (one-occurs v)))
        (λ g. inl (l.complete w m (λ q. f (elsewhere w g ∙ q))))
        (eq-or-not v w))

    next-distinct : (i j : ℕ) → i < j → j < length next.reached → get_or next.reached i 0 ≡ get_or next.reached j 0 → ⊥
    next-distinct i j a b q =
        ⊎_elim
        (λ m. l.distinct i j a m (sym (first i (omega arith)) ∙ q ∙ first j m))
        (λ m. fresh (get_or s.reached i 0) (i, omega (arith, longer), refl) (sym (last j (omega (arith, longer))) ∙ sym q ∙ first i (omega (arith, longer))))
        (lt-or-le j (length s.reached))
      where
        longer : length (s.reached ++ (v ∷ [])) ≡ length s.reached + 1
        longer = length-append s.reached (v ∷ [])

        first : (i : ℕ) → i < length s.reached → get_or (s.reached ++ (v ∷ [])) i 0 ≡ get_or s.reached i 0
        first i m = get_or-append s.reached (v ∷ []) 0 i m

        last : (j : ℕ) → j ≡ length s.reached → get_or (s.reached ++ (v ∷ [])) j 0 ≡ v
        last j m = ap (λ (x : ℕ). get_or (s.reached ++ (v ∷ [])) x 0) m ∙ get_or-append_seam s.reached v [] 0

    listed-new : Listed n next
    listed-new = record { near = next-near; complete = next-complete; distinct = next-distinct }

  -- ---- each step keeps the agreement

  listed-visit : (d : ℕ) (s : SearchState) (v : ℕ) → SearchReady n s → Listed n s → v < n → d < far → Listed n (visit d s v)
  listed-visit d s v k l h small = visit-cases (Listed n) d s v (listed-new d s v k l h small) (λ _. l)

  pub listed-scan : (d : ℕ) (s : SearchState) (vs : List ℕ) → SearchReady n s → Listed n s → Below n vs → d < far → Listed n (scan d s vs)
  unfolding scan Below
  listed-scan d s [] k l b small = l
  listed-scan d s (v ∷ vs) k l b small =
      let h : v < n = b zero (zero-lt-suc _) in
      listed-scan d (visit d s v) vs (ready-visit n d s v k h small) (listed-visit d s v k l h small) (λ i m. b (suc i) (suc-le-suc m)) small

  listed-level : (adj : ℕ → List ℕ) (d : ℕ) (s : SearchState) (vs : List ℕ) → ((v : ℕ) → v < n → Below n (adj v)) → SearchReady n s → Listed n s → Below n vs → d < far
      → Listed n (level adj d s vs)
  unfolding level Below
  listed-level adj d s [] a k l b small = l
  listed-level adj d s (v ∷ vs) a k l b small =
      let c = a v (b zero (zero-lt-suc _)) in
      listed-level adj d (scan d s (adj v)) vs a (ready-scan n d s (adj v) k c small) (listed-scan d s (adj v) k l c small) (λ i m. b (suc i) (suc-le-suc m)) small

  -- each level that is not the last reaches a node, so that no distance comes to `far`
  listed-levels : (adj : ℕ → List ℕ) (r d lo : ℕ) (s : SearchState) → n < far → ((v : ℕ) → v < n → Below n (adj v)) → SearchReady n s → Listed n s → d ≤ lo
      → lo ≤ length s.reached → Listed n (levels adj r d lo s)
  unfolding levels
  listed-levels adj zero d lo s few a k l early within = l
  listed-levels adj (suc r) d lo s few a k l early within =
      ⊎_elim
      (λ more.
      let small : suc d < far = let c = k.counted in omega arith in
      let b = below-drop n s.reached lo k.inside in
      listed-levels adj r (suc d) (length s.reached) (level adj (suc d) s (drop lo s.reached)) few a
      (ready-level n adj (suc d) s (drop lo s.reached) a k b small)
      (listed-level adj (suc d) s (drop lo s.reached) a k l b small)
      (omega arith)
      (extends-length s _ (extends-level adj (suc d) s (drop lo s.reached))))
      (λ none. rw (levels-end adj (suc r) d lo s none) l)
      (lt-or-le lo (length s.reached))

  pub listed_start : (c : ℕ) → c < n → Listed n (start n c)
  unfolding start
  listed_start c h =
      record {
        near = λ v o q. let z = here v (occurs-one c v o) in omega arith;
        complete = λ v m f. ⊎_elim (λ q. subst (Occurs (c ∷ [])) q (one-occurs c)) (λ g. absurd (f (there v m g))) (eq-or-not c v);
        distinct = λ i j a b q. omega arith;
      }
    where
      here : (v : ℕ) → c ≡ v → get_or (set (replicate n far) c 0) v 0 ≡ 0
      here v q = subst (λ (x : ℕ). get_or (set (replicate n far) c 0) x 0 ≡ 0) q (get_or-set_same (replicate n far) c 0 0 (rw length-replicate h))

      there : (v : ℕ) → v < n → (c ≡ v → ⊥) → get_or (set (replicate n far) c 0) v 0 ≡ far
      there v m g = get_or-set_other (replicate n far) c v 0 0 (λ q. g (sym q)) ∙ get_or-replicate n v far 0 m

  -- A search lists the nodes that it reaches, each once.
  pub bfs-listed : (adj : ℕ → List ℕ) (c r : ℕ) → c < n → n < far → ((v : ℕ) → v < n → Below n (adj v)) → Listed n (bfs adj n c r)
  unfolding bfs
  bfs-listed adj c r h few a = listed-levels adj r 0 0 (start n c) few a (ready-start n c h) (listed_start c h) (le_refl 0) zero-le
