-- A search that goes on from where it stands: what is left of it is the same after each look and after each level, so that from the centre it finds what `bfs` finds,
-- or the first of that. Assumes nothing.
use Rattle.std.specs.Prelude.{◌≡◌, ◌⊎◌, ◌||◌, ◌++◌, ◌≤◌, ◌<◌, ◌+◌, ◌-◌}
use Rattle.base_lists.specs.Kit.{◌∙◌, sym, ap, refl, subst, ⊎_elim, inl, inr, Bool, false, true, List, ℕ, suc, zero, le_refl, le_trans, not-suc-le-zero, sub-zero, eqb, length, get_or, take, drop, take-append-drop, min-le_right, length-take, length-take-le, take-take, get_or-take, take-length, arith, eqb-true, eqb-false}
use Rattle.base_lists.specs.List.{Occurs, Below}
use Rattle.base_lists.proofs.Tests.{false-T}
use Rattle.graph.specs.Bfs.{SearchState, scan, level, levels, start, bfs, missing, Adjacency}
use Rattle.graph.specs.Graph.{Walk}
use Rattle.graph.specs.Search.{far}
use Rattle.graph.proofs.Bfs.{bfs-measured, bfs-ready}
use Rattle.graph.proofs.BfsScan.{occurs-append}
use Rattle.graph.proofs.Reached.{bfs-listed}
use Rattle.graph.proofs.BfsSteps.{level-next, level-end, levels-next, levels-none, levels-end, extends-scan, extends-level, extends-length, extends-take}
use Rattle.graph_search.specs.declared.Frontier.{Frontier}
use Rattle.graph_search.specs.Until.{onward, Standing, Advanced, Until}
use Rattle.graph_search.proofs.Full.{onward-full}

-- ---- the two tests at the end of a level

-- either test says that nothing is left
pub either : (a b d r : ℕ) → (eqb a b || eqb d r) ≡ true → (a ≡ b) ⊎ (d ≡ r)
either a b d r = go (eqb a b) refl (eqb d r) refl
  where
    go : (x : Bool) → eqb a b ≡ x → (y : Bool) → eqb d r ≡ y → (x || y) ≡ true → (a ≡ b) ⊎ (d ≡ r)
    go true p y q e = inl (eqb-true a b p)
    go false p true q e = inr (eqb-true d r q)
    go false p false q e = absurd (false-T (sym e) tt)

-- or neither does
pub neither : (a b d r : ℕ) → (eqb a b || eqb d r) ≡ false → (a ≡ b → ⊥) × (d ≡ r → ⊥)
neither a b d r = go (eqb a b) refl (eqb d r) refl
  where
    go : (x : Bool) → eqb a b ≡ x → (y : Bool) → eqb d r ≡ y → (x || y) ≡ false → (a ≡ b → ⊥) × (d ≡ r → ⊥)
    go true p y q e = absurd (false-T e tt)
    go false p true q e = absurd (false-T e tt)
    go false p false q e = (eqb-false a b p, eqb-false d r q)

-- ---- one step of what is left

module _ (adj : ℕ → List ℕ) (f : Frontier) (s : SearchState) where
  -- the rest of the level, one node further
  onward-next : (v tail : ℕ) → f.looked < f.level → f.level ≤ length s.reached → v ≡ get_or s.reached f.looked 0 → (m : ℕ)
      → onward adj m (record { looked = f.looked + 1; level = f.level; tail = tail; depth = f.depth }) (scan f.depth s (adj v)) ≡ onward adj m f s
  unfolding onward
  onward-next v tail h l e m =
      let first = length-take-le f.level s.reached l in
      rw (extends-take f.level s (scan f.depth s (adj v)) (extends-scan f.depth s (adj v)) l)
      (ap (levels adj (m - f.depth) f.depth f.level)
      (level-next adj f.depth s _ (take f.level s.reached) f.looked v (omega arith) (e ∙ sym (get_or-take f.level s.reached f.looked 0 h)) refl))

  -- all of the level has been looked from
  module _ (e : f.looked ≡ f.level) (l : f.level ≤ length s.reached) where
    done : level adj f.depth s (drop f.looked (take f.level s.reached)) ≡ s
    done = let first = length-take-le f.level s.reached l in level-end adj f.depth s (take f.level s.reached) f.looked (omega arith)

    -- the next level begins,
    onward-level : (tail : ℕ) → tail ≡ length s.reached → (m : ℕ) → f.depth < m
        → onward adj m (record { looked = f.looked; level = tail; tail = tail; depth = f.depth + 1 }) s ≡ onward adj m f s
    unfolding onward
    onward-level tail q m h =
        levels-next adj m f.depth f.level tail s _ h q (rw (e, q, take-length s.reached))
        ∙ ap (levels adj (m - f.depth) f.depth f.level) (sym done)

    -- or nothing is left
    onward-end : (r : ℕ) → (length s.reached ≤ f.level) ⊎ (f.depth ≡ r) → s ≡ onward adj r f s
    unfolding onward
    onward-end r none =
        sym
        (ap (levels adj (r - f.depth) f.depth f.level) done
        ∙ ⊎_elim
        (λ h. levels-end adj (r - f.depth) f.depth f.level s h)
        (λ h. levels-none adj (r - f.depth) f.depth f.level s (omega arith))
        none)

-- ---- a search that goes on

-- a list that is the first of another is not longer,
pub first-le : (xs ys : List ℕ) → take (length xs) ys ≡ xs → length xs ≤ length ys
first-le xs ys e = subst (λ (k : ℕ). k ≤ length ys) (sym (length-take (length xs) ys) ∙ ap length e) (min-le_right (length xs) (length ys))

-- and is the first of what that is the first of
first_more : (xs ys zs : List ℕ) → take (length xs) ys ≡ xs → take (length ys) zs ≡ ys → take (length xs) zs ≡ xs
first_more xs ys zs a b = sym (take-take (length xs) (length ys) zs (first-le xs ys a)) ∙ ap (take (length xs)) b ∙ a

module _ {adj : ℕ → List ℕ} {r : ℕ} {f : Frontier} {s : SearchState} where
  -- it has not moved
  pub advanced-none : Standing r f → Advanced adj r 0 f s f s
  advanced-none k = record { standing = k; further = le_refl _; longer = take-length s.reached; same = λ m h. refl; all = λ h. absurd (not-suc-le-zero h) }

  module _ {g : Frontier} {t : SearchState} (a : Advanced adj r 0 f s g t) (size : g.tail ≡ length t.reached) where
    listed : g.level ≤ length t.reached
    listed = omega (arith, a.standing.reached)

    -- one node further
    pub advanced-next : (v : ℕ) → g.looked < g.level → v ≡ get_or t.reached g.looked 0
        → (tail : ℕ) → tail ≡ length (scan g.depth t (adj v)).reached
        → Advanced adj r 0 f s (record { looked = g.looked + 1; level = g.level; tail = tail; depth = g.depth }) (scan g.depth t (adj v))
    advanced-next v h e tail q =
        record {
          standing =
              record {
                inside = omega arith;
                reached = omega (arith, listed, extends-length t _ (extends-scan g.depth t (adj v)));
                early = a.standing.early;
                within = a.standing.within;
              };
          further = a.further;
          longer = extends-take (length s.reached) t _ (extends-scan g.depth t (adj v)) (first-le s.reached t.reached a.longer) ∙ a.longer;
          same = λ m b. onward-next adj g t v tail h listed e m ∙ a.same m b;
          all = λ b. absurd (not-suc-le-zero b);
        }

    module _ (e : g.looked ≡ g.level) where
      -- one level further
      pub advanced-level : g.level < g.tail → g.depth < r → Advanced adj r 0 f s (record { looked = g.looked; level = g.tail; tail = g.tail; depth = g.depth + 1 }) t
      advanced-level h b =
          record {
            standing = record { inside = omega arith; reached = le_refl _; early = omega (arith, a.standing.early); within = omega arith };
            further = omega (arith, a.further);
            longer = a.longer;
            same = λ m k. onward-level adj g t e listed g.tail size m (omega arith) ∙ a.same m (omega arith);
            all = λ k. absurd (not-suc-le-zero k);
          }

      -- nothing is left
      pub advanced-end : (n : ℕ) → (g.level ≡ g.tail) ⊎ (g.depth ≡ r) → Advanced adj r n f s g t
      advanced-end n none =
          record {
            standing = a.standing;
            further = a.further;
            longer = a.longer;
            same = a.same;
            all = λ _. onward-end adj g t e listed r (⊎_elim (λ q. inl (omega arith)) inr none) ∙ a.same r a.standing.within;
          }

    -- there are enough
    pub advanced-enough : (n : ℕ) → n ≤ g.tail → Advanced adj r n f s g t
    advanced-enough n h = record { standing = a.standing; further = a.further; longer = a.longer; same = a.same; all = λ b. absurd (omega arith) }

-- once more
pub advanced-more : {adj : ℕ → List ℕ} {r k m : ℕ} {f g h : Frontier} {s t u : SearchState} → Advanced adj r k f s g t → Advanced adj r m g t h u → Advanced adj r m f s h u
advanced-more {s = s} {t = t} {u = u} a b =
    record {
      standing = b.standing;
      further = le_trans a.further b.further;
      longer = first_more s.reached t.reached u.reached a.longer b.longer;
      same = λ m l. b.same m l ∙ a.same m (le_trans b.further l);
      all = λ l. b.all l ∙ a.same _ a.standing.within;
    }

-- ---- from the centre

-- the centre alone is reached
abbrev pub centre : Frontier
centre = record { looked = 0; level = 0; tail = 1; depth = 0 }

pub centre-standing : (r : ℕ) → Standing r centre
centre-standing r = record { inside = le_refl 0; reached = omega arith; early = le_refl 0; within = omega arith }

-- all of the search is left
centre-onward : (adj : ℕ → List ℕ) (n c m : ℕ) → onward adj m centre (start n c) ≡ bfs adj n c m
unfolding onward bfs
centre-onward adj n c m =
    ap (levels adj (m - 0) 0 0) (level-end adj 0 (start n c) (take 0 (start n c).reached) 0 (omega (arith, length-take-le 0 (start n c).reached (omega arith))))
    ∙ ap (λ (k : ℕ). levels adj k 0 0 (start n c)) (sub-zero m)

module _ (n c : ℕ) {adj : ℕ → List ℕ} {r size : ℕ} {g : Frontier} {s t : SearchState} (e : s ≡ start n c) (a : Advanced adj r size centre s g t) where
  from-centre : (m : ℕ) → onward adj m centre s ≡ bfs adj n c m
  from-centre m = ap (onward adj m centre) e ∙ centre-onward adj n c m

  -- so it has found all where it has not reached so many nodes,
  pub advanced-all : g.tail < size → t ≡ bfs adj n c r
  advanced-all h = a.all h ∙ from-centre r

  -- and where it has reached every node
  advanced-full : missing t.dist ≡ 0 → t ≡ bfs adj n c r
  advanced-full full = sym (onward-full full adj r g) ∙ a.same r a.standing.within ∙ from-centre r

  -- So a search that stops at as many nodes as there are finds all.
  pub advanced-every : g.tail + missing t.dist ≡ size → t ≡ bfs adj n c r
  advanced-every = go (missing t.dist) refl
    where
      go : (k : ℕ) → missing t.dist ≡ k → g.tail + k ≡ size → t ≡ bfs adj n c r
      go zero p h = advanced-full p
      go (suc k) p h = advanced-all (omega (arith, h))

  -- and where it stops it has reached the first of the nodes up to some distance: all of them, unless there is enough
  pub advanced-until : {Enough : Type 0} → ((Enough → ⊥) → t ≡ bfs adj n c r) → Until adj n c r Enough t
  unfolding onward
  advanced-until whole =
      let end = level adj g.depth t (drop g.looked (take g.level t.reached)) in
      let m = length t.reached in
      let same : take m end.reached ≡ t.reached = extends-take m t end (extends-level adj g.depth t _) (le_refl m) ∙ take-length t.reached in
      record {
        depth = g.depth;
        rest = drop m end.reached;
        within = a.standing.within;
        first =
            ap (λ (ns : List ℕ). ns ++ drop m end.reached) (sym same) ∙ take-append-drop m end.reached
            ∙ ap (λ (u : SearchState). u.reached)
            (sym (levels-none adj (g.depth - g.depth) g.depth g.level end (omega arith)) ∙ a.same g.depth (le_refl _) ∙ from-centre g.depth);
        all = whole;
      }

-- ---- as far as walks lead

-- a walk of at most r links leads to each node that such a search has reached
pub until-walk :
    {n c r : ℕ} {adj : ℕ → List ℕ} {Link : ℕ → ℕ → Type 0} {Enough : Type 0} {s : SearchState} → n < far → c < n → Adjacency n adj Link → Until adj n c r Enough s →
    (v : ℕ) → Occurs s.reached v → (v < n) × ((k : ℕ) × Walk Link c v k × (k ≤ r))
unfolding Below
until-walk {n} {c} {r} {adj} {Link} {s = s} few h a u v o =
    let (i, b, e) = subst (λ (l : List ℕ). Occurs l v) u.first ((occurs-append v s.reached u.rest).1 (inl o)) in
    let m : v < n = subst (λ (x : ℕ). x < n) e ((bfs-ready n c adj Link few h a u.depth).inside i b) in (
      m,
      ⊎_elim
          (λ q. absurd ((bfs-listed n adj c u.depth h few a.inside).near v (i, b, e) q.0))
          (λ q. (_, q.0, le_trans q.2 u.within))
          (bfs-measured n c adj Link few h a u.depth v m),
    )
