-- Each step of a breadth-first search keeps a state of a search, on lists and on the tables that stand for it. Assumes nothing.
use Rattle.std.specs.Prelude.{◌≡◌, ◌∷◌, ◌++◌, ◌≤◌, ◌<◌, ◌+◌, ◌-◌}
use Rattle.base_lists.specs.Kit.{◌∙◌, sym, ap, refl, subst, Bool, false, true, cond, List, [], append-nil, append_assoc, ℕ, suc, zero, suc-le-suc, not-suc-le-zero, le_refl, le_of_suc-le-suc, zero-lt-suc, add-one, eqb, length, get_or, take, drop, set, length-set, length-append, replicate, drop_of_length-le, length-replicate, get_or-replicate, length-take-le, drop-cons, get_or-take, take-append-le, take-suc-set, arith, eq-eqb, ne_eqb, eqb-true, eqb-false}
use Rattle.graph.specs.Net.{driven, driving}
use Rattle.graph.specs.Bfs.{SearchState, visit, scan, level, levels, start, adjacent, missing, SearchReady, state_of, Searching, Searched, Found}
use Rattle.base_lists.specs.List.{Below}
use Rattle.base_lists.proofs.Entries.{below-append, below_one}
use Rattle.graph.specs.Search.{far}

-- ---- how many nodes are missing

-- to reach one of the missing nodes leaves one missing less
pub missing-set : (xs : List ℕ) (v d : ℕ) → v < length xs → get_or xs v 0 ≡ far → d < far → missing xs ≡ suc (missing (set xs v d))
unfolding missing
missing-set [] v d h e l = absurd (not-suc-le-zero h)
missing-set (x ∷ xs) zero d h e l = rw (eq-eqb x far e, ne_eqb d far (λ q. omega arith))
missing-set (x ∷ xs) (suc v) d h e l = go (eqb x far) (missing-set xs v d (le_of_suc-le-suc h) e l)
  where
    go : (b : Bool) {m k : ℕ} → m ≡ suc k → cond b (suc m) m ≡ suc (cond b (suc k) k)
    go true q = ap suc q
    go false q = q

-- before anything is reached, all are missing
pub missing-all : (n : ℕ) → missing (replicate n far) ≡ n
unfolding missing
missing-all zero = refl
missing-all (suc n) = ap suc (missing-all n)

-- ---- one visit

pub visit-new : (d : ℕ) (s : SearchState) (v : ℕ) → get_or s.dist v 0 ≡ far → visit d s v ≡ record { dist = set s.dist v d; reached = s.reached ++ (v ∷ []) }
unfolding visit
visit-new d s v e = rw (eq-eqb (get_or s.dist v 0) far e)

pub visit-old : (d : ℕ) (s : SearchState) (v : ℕ) → (get_or s.dist v 0 ≡ far → ⊥) → visit d s v ≡ s
unfolding visit
visit-old d s v e = rw (ne_eqb (get_or s.dist v 0) far e)

-- what holds after a visit of a new node and of an old one holds after any
pub visit-cases : (P : SearchState → Type 0) (d : ℕ) (s : SearchState) (v : ℕ)
    → (get_or s.dist v 0 ≡ far → P (record { dist = set s.dist v d; reached = s.reached ++ (v ∷ []) }))
    → ((get_or s.dist v 0 ≡ far → ⊥) → P s)
    → P (visit d s v)
visit-cases P d s v new old = go (eqb (get_or s.dist v 0) far) refl
  where
    go : (b : Bool) → eqb (get_or s.dist v 0) far ≡ b → P (visit d s v)
    go true e = let h = eqb-true _ _ e in subst P (sym (visit-new d s v h)) (new h)
    go false e = let h = eqb-false _ _ e in subst P (sym (visit-old d s v h)) (old h)

-- ---- a list of visits

-- what is left of a list of visits, one visit further
pub scan-next : (d : ℕ) (s s' : SearchState) (vs : List ℕ) (i : ℕ) → i < length vs → s' ≡ visit d s (get_or vs i 0)
    → scan d s' (drop (i + 1) vs) ≡ scan d s (drop i vs)
unfolding scan
scan-next d s s' vs i h e = rw (e, add-one, drop-cons vs i 0)

pub scan-end : (d : ℕ) (s : SearchState) (vs : List ℕ) (i : ℕ) → length vs ≤ i → scan d s (drop i vs) ≡ s
unfolding scan
scan-end d s vs i h = rw (drop_of_length-le vs h)

pub scan-append : (d : ℕ) (s : SearchState) (xs ys : List ℕ) → scan d s (xs ++ ys) ≡ scan d (scan d s xs) ys
unfolding scan
scan-append d s [] ys = refl
scan-append d s (x ∷ xs) ys = scan-append d (visit d s x) xs ys

-- the visits of what a node drives and of what drives it are those of its neighbours
pub expanded : (d : ℕ) (s s₁ s₂ : SearchState) (offsets targets : List ℕ) (v : ℕ) (p₁ p₂ : List ℕ) → p₁ ≡ driven offsets targets v → p₂ ≡ driving offsets targets v
    → s₁ ≡ scan d s p₁ → s₂ ≡ scan d s₁ p₂ → s₂ ≡ scan d s (adjacent offsets targets v)
unfolding adjacent
expanded d s s₁ s₂ offsets targets v p₁ p₂ e₁ e₂ f₁ f₂ = rw (f₂, f₁, e₁, e₂) (sym (scan-append d s (driven offsets targets v) (driving offsets targets v)))

-- ---- a level, and levels

-- what is left of a level, one node further
pub level-next : (adj : ℕ → List ℕ) (d : ℕ) (s s' : SearchState) (vs : List ℕ) (i v : ℕ) → i < length vs → v ≡ get_or vs i 0 → s' ≡ scan d s (adj v)
    → level adj d s' (drop (i + 1) vs) ≡ level adj d s (drop i vs)
unfolding level
level-next adj d s s' vs i v h q e = rw (e, q, add-one, drop-cons vs i 0)

pub level-end : (adj : ℕ → List ℕ) (d : ℕ) (s : SearchState) (vs : List ℕ) (i : ℕ) → length vs ≤ i → level adj d s (drop i vs) ≡ s
unfolding level
level-end adj d s vs i h = rw (drop_of_length-le vs h)

-- what is left of r levels, one level further
pub levels-next : (adj : ℕ → List ℕ) (r d lo hi : ℕ) (s s' : SearchState) → d < r → hi ≡ length s.reached → s' ≡ level adj (d + 1) s (drop lo s.reached)
    → levels adj (r - (d + 1)) (d + 1) hi s' ≡ levels adj (r - d) d lo s
unfolding levels
levels-next adj r d lo hi s s' h l e =
    let q : r - d ≡ suc (r - (d + 1)) = omega arith in
    rw (e, l, q, add-one)

-- no levels are left
pub levels-none : (adj : ℕ → List ℕ) (r d lo : ℕ) (s : SearchState) → r ≡ 0 → levels adj r d lo s ≡ s
unfolding levels
levels-none adj r d lo s e = rw e

-- an empty frontier leaves nothing to do
pub levels-end : (adj : ℕ → List ℕ) (r d lo : ℕ) (s : SearchState) → length s.reached ≤ lo → levels adj r d lo s ≡ s
unfolding levels
levels-end adj zero d lo s h = refl
levels-end adj (suc r) d lo s h = rw (level-end adj (suc d) s s.reached lo h) (levels-end adj r (suc d) (length s.reached) s (le_refl _))

-- ---- what was reached stays, in its place

-- the first nodes reached are the same
pub Extends : SearchState → SearchState → Type 0
Extends s s' = (new : List ℕ) × (s'.reached ≡ s.reached ++ new)

extends-refl : (s : SearchState) → Extends s s
unfolding Extends
extends-refl s = ([], sym (append-nil s.reached))

extends-trans : (s s' s'' : SearchState) → Extends s s' → Extends s' s'' → Extends s s''
unfolding Extends
extends-trans s s' s'' a b = (a.0 ++ b.0, b.1 ∙ ap (λ (l : List ℕ). l ++ b.0) a.1 ∙ append_assoc s.reached a.0 b.0)

extends-visit : (d : ℕ) (s : SearchState) (v : ℕ) → Extends s (visit d s v)
unfolding Extends
extends-visit d s v = visit-cases (Extends s) d s v (λ _. (v ∷ [], refl)) (λ _. extends-refl s)

pub extends-scan : (d : ℕ) (s : SearchState) (vs : List ℕ) → Extends s (scan d s vs)
unfolding scan
extends-scan d s [] = extends-refl s
extends-scan d s (v ∷ vs) = extends-trans s (visit d s v) (scan d (visit d s v) vs) (extends-visit d s v) (extends-scan d (visit d s v) vs)

pub extends-level : (adj : ℕ → List ℕ) (d : ℕ) (s : SearchState) (vs : List ℕ) → Extends s (level adj d s vs)
unfolding level
extends-level adj d s [] = extends-refl s
extends-level adj d s (v ∷ vs) =
    extends-trans s (scan d s (adj v)) (level adj d (scan d s (adj v)) vs) (extends-scan d s (adj v)) (extends-level adj d (scan d s (adj v)) vs)

pub extends-length : (s s' : SearchState) → Extends s s' → length s.reached ≤ length s'.reached
unfolding Extends
extends-length s s' a = rw a.1 (simp length-append (omega arith))

pub extends-take : (m : ℕ) (s s' : SearchState) → Extends s s' → m ≤ length s.reached → take m s'.reached ≡ take m s.reached
unfolding Extends
extends-take m s s' a h = rw a.1 (take-append-le m s.reached a.0 h)

-- ---- each step keeps a state of a search

module _ (n : ℕ) where
  ready-new : (d : ℕ) (s : SearchState) (v : ℕ) → SearchReady n s → v < n → d < far → get_or s.dist v 0 ≡ far
      → SearchReady n (record { dist = set s.dist v d; reached = s.reached ++ (v ∷ []) })
  ready-new d s v k h l e = record {
    size = length-set s.dist v d ∙ k.size;
    counted =
        let m = missing-set s.dist v d (rw k.size h) e l in
        let c = k.counted in
        let a = length-append s.reached (v ∷ []) in
        omega arith;
    inside = below-append n s.reached (v ∷ []) k.inside (below_one n v h);
  }

  pub ready-visit : (d : ℕ) (s : SearchState) (v : ℕ) → SearchReady n s → v < n → d < far → SearchReady n (visit d s v)
  ready-visit d s v k h l = visit-cases (SearchReady n) d s v (ready-new d s v k h l) (λ _. k)

  pub ready-scan : (d : ℕ) (s : SearchState) (vs : List ℕ) → SearchReady n s → Below n vs → d < far → SearchReady n (scan d s vs)
  unfolding scan Below
  ready-scan d s [] k b l = k
  ready-scan d s (v ∷ vs) k b l = ready-scan d (visit d s v) vs (ready-visit d s v k (b zero (zero-lt-suc _)) l) (λ i h. b (suc i) (suc-le-suc h)) l

  pub ready-level : (adj : ℕ → List ℕ) (d : ℕ) (s : SearchState) (vs : List ℕ) → ((v : ℕ) → v < n → Below n (adj v)) → SearchReady n s → Below n vs → d < far
      → SearchReady n (level adj d s vs)
  unfolding level Below
  ready-level adj d s [] a k b l = k
  ready-level adj d s (v ∷ vs) a k b l =
      ready-level adj d (scan d s (adj v)) vs a (ready-scan d s (adj v) k (a v (b zero (zero-lt-suc _))) l) (λ i h. b (suc i) (suc-le-suc h)) l

  pub ready-start : (c : ℕ) → c < n → SearchReady n (start n c)
  unfolding start Below
  ready-start c h =
      let l = length-replicate n far in
      let m = missing-set (replicate n far) c 0 (omega arith) (get_or-replicate n c far 0 h) (omega arith) in
      let a = missing-all n in
      record {
        size = length-set (replicate n far) c 0 ∙ l;
        counted = omega arith;
        inside = below_one n c h;
      }

-- a node that is not reached yet leaves room among the reached ones
pub room_for : (n : ℕ) (s : SearchState) (v : ℕ) → SearchReady n s → v < n → get_or s.dist v 0 ≡ far → length s.reached < n
room_for n s v k h e =
    let m = missing-set s.dist v 0 (rw k.size h) e (omega arith) in
    let c = k.counted in
    omega arith

-- ---- the tables that stand for a state

module _ (dist queue : List ℕ) (tail : ℕ) (k : Searching dist queue tail) where
  -- the nodes reached are as many as `tail` says
  pub reached-length : length (state_of dist queue tail).reached ≡ tail
  unfolding state_of
  reached-length = length-take-le tail queue k.within

  -- so there are no more of them than nodes
  pub tail-le : tail ≤ length dist
  tail-le =
      let c = k.ready.counted in
      let r = reached-length in
      omega arith

  -- and each is a node
  pub queue-node : (i : ℕ) → i < tail → get_or queue i 0 < length dist
  unfolding state_of Below
  queue-node i h =
      let r = reached-length in
      rw (get_or-take tail queue i 0 h) at (k.ready.inside i (omega arith))

  -- a node that is not reached yet leaves room in the queue
  pub queue-room : (v : ℕ) → v < length dist → get_or dist v 0 ≡ far → tail < length queue
  unfolding state_of
  queue-room v h e =
      let m = room_for (length dist) (state_of dist queue tail) v k.ready h e in
      let r = reached-length in
      let o = k.room in
      omega arith

  -- the tables after a visit of a node that is not reached yet
  pub visited-new : (v d : ℕ) → v < length dist → d < far → get_or dist v 0 ≡ far
      → Searched (set dist v d) (set queue tail v) (tail + 1) (visit d (state_of dist queue tail) v)
  unfolding state_of
  visited-new v d h l e =
      let room = queue-room v h e in
      let same : state_of (set dist v d) (set queue tail v) (tail + 1) ≡ visit d (state_of dist queue tail) v =
      sym (visit-new d (state_of dist queue tail) v e ∙ ap (λ (q : List ℕ). record { dist = set dist v d; reached = q }) (sym (rw add-one (take-suc-set queue tail v room)))) in
      record {
        state = same;
        kept = record {
          room = rw (length-set dist v d, length-set queue tail v) k.room;
          within = rw (length-set queue tail v) (omega arith);
          ready = rw (same, length-set dist v d) (ready-visit (length dist) d (state_of dist queue tail) v k.ready h l);
        };
      }

  -- and of one that is
  pub visited-old : (v d : ℕ) → (get_or dist v 0 ≡ far → ⊥) → Searched dist queue tail (visit d (state_of dist queue tail) v)
  unfolding state_of
  visited-old v d e = record { state = sym (visit-old d (state_of dist queue tail) v e); kept = k }

-- the tables at the start
pub started : (n c : ℕ) (queue : List ℕ) → c < n → n ≡ length queue → Searched (set (replicate n far) c 0) (set queue 0 c) 1 (start n c)
unfolding state_of start
started n c queue h l =
    let same : state_of (set (replicate n far) c 0) (set queue 0 c) 1 ≡ start n c =
    ap (λ (q : List ℕ). record { dist = set (replicate n far) c 0; reached = q }) (take-suc-set queue 0 c (omega arith)) in
    let k = ready-start n c h in
    let d : length (set (replicate n far) c 0) ≡ n = k.size in
    record {
      state = same;
      kept = record {
        room = rw (d, length-set queue 0 c) (omega arith);
        within = rw (length-set queue 0 c) (omega arith);
        ready = rw (same, d) k;
      };
    }

-- what the tables hold of a search
pub found : (k : ℕ) (dist queue : List ℕ) (s : SearchState) → Searched dist queue k s → Found k dist queue s
unfolding state_of
found k dist queue s f = record {
  distances = ap (λ (t : SearchState). t.dist) f.state;
  count = sym (reached-length dist queue k f.kept) ∙ ap (λ (t : SearchState). length t.reached) f.state;
  nodes = ap (λ (t : SearchState). t.reached) f.state;
}
