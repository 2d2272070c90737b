-- The search for the component: its steps on tables, and that what it reaches is what walks join to the centre. Assumes nothing.
use Rattle.std.specs.Prelude.{◌≡◌, ◌↔◌, ◌&&◌, ◌≤◌, ◌<◌, ◌+◌}
use Rattle.base_lists.specs.Kit.{◌∙◌, sym, ap, refl, subst, ⊎_elim, inl, inr, Bool, false, true, not, List, ℕ, suc, zero, suc-le-suc, le_refl, le_of_suc-le-suc, le_step, eq-or-lt_of_le, not-le_of_lt, min-le_right, T, T_not, length, get_or, take, drop, length-take, arith}
use Rattle.base_lists.specs.List.{Occurs, Below}
use Rattle.base_lists.proofs.Tests.{both_true, both_left, both_right, true-T, lt-or-le}
use Rattle.base_bits.specs.Bits.{union_over}
use Rattle.graph.specs.Bfs.{SearchState, scan, level, levels, start, bfs, SearchReady, Adjacency, Found}
use Rattle.graph.specs.Circuit.{HasLink}
use Rattle.graph.specs.Graph.{Walk, stay, step}
use Rattle.graph.specs.Net.{driven, driving, Net}
use Rattle.graph.specs.Search.{far, inside, ball}
use Rattle.graph.proofs.Ball.{Within, component-iff}
use Rattle.base_lists.proofs.Entries.{below-append, below-drop}
use Rattle.graph.proofs.Net.{driven-below, driving-below}
use Rattle.graph.proofs.Bfs.{bfs-measured, bfs-ready}
use Rattle.graph.proofs.BfsSteps.{scan-append, levels-end, ready-level, ready-start, extends-level, extends-length}
use Rattle.graph.proofs.Reached.{bfs-listed}
use Rattle.table.specs.Fill.{Distinct}
use Rattle.table.specs.Prepared.{succ_of, pred_of, Tables}
use Rattle.graph_follow.specs.Follow.{meeting}
use Rattle.graph_follow.proofs.Following.{meeting-below}
use Rattle.place.specs.Spread.{matched, Reached, ClosedSet, Spread, Lists}

-- the looks along a node's two stretches are visits of the nodes that matching links join to it
pub matched-scan :
    (t : Tables) (sets : List ℕ) (v d : ℕ) (s s₁ s₂ : SearchState) (out back : ℕ) (p₁ p₂ : List ℕ) →
    out ≡ union_over (succ_of t.masks) (get_or sets v 0) → back ≡ union_over (pred_of t.masks) (get_or sets v 0) →
    p₁ ≡ driven t.offsets t.targets v → p₂ ≡ driving t.offsets t.targets v →
    s₁ ≡ scan d s (meeting out sets p₁) → s₂ ≡ scan d s₁ (meeting back sets p₂) → s₂ ≡ scan d s (matched t sets v)
unfolding matched
matched-scan t sets v d s s₁ s₂ out back p₁ p₂ d₁ d₂ e₁ e₂ f₁ f₂ =
    rw (f₂, f₁, d₁, d₂, e₁, e₂)
    (sym
    (scan-append d s (meeting (union_over (succ_of t.masks) (get_or sets v 0)) sets (driven t.offsets t.targets v))
    (meeting (union_over (pred_of t.masks) (get_or sets v 0)) sets (driving t.offsets t.targets v))))

-- which are nodes
pub matched-below : {n : ℕ} (t : Tables) (sets : List ℕ) → Net n t.offsets t.targets → (v : ℕ) → v < n → Below n (matched t sets v)
unfolding matched
matched-below {n} t sets net v h =
    below-append n _ _ (meeting-below _ sets n _ (driven-below net v h)) (meeting-below _ sets n _ (driving-below net v h))

-- ---- where walks lead

-- What holds of a node and, with a node, of what is joined to it, holds wherever walks from there lead.
pub walk-closed :
    {n c : ℕ} {adj : ℕ → List ℕ} {Link : ℕ → ℕ → Type 0} → c < n → Adjacency n adj Link → (P : ℕ → Type 0) → P c →
    ((v w : ℕ) → v < n → P v → Occurs (adj v) w → P w) → {u v k : ℕ} → Walk Link u v k → u ≡ c → (v < n) × P v
unfolding Below
walk-closed {n} h a P t closed stay e = (subst (λ (x : ℕ). x < n) (sym e) h, subst P (sym e) t)
walk-closed {n} h a P t closed (step {w = f} {x = w} q l) e =
    let (m, y) = walk-closed h a P t closed q e in
    let o = (a.joined f w m).1 l in
    (subst (λ (x : ℕ). x < n) o.2 (a.inside f m o.0 o.1), closed f w m y o)

-- ---- a search that goes as far as there is anything to reach, over any adjacency function

-- as many levels as there are nodes are all: each that is not the last has reached a node
levels-all :
    (n : ℕ) (adj : ℕ → List ℕ) → n < far → ((v : ℕ) → v < n → Below n (adj v)) → (r d lo : ℕ) (s : SearchState) → SearchReady n s → d ≤ lo → lo ≤ length s.reached → n ≤ d + r
    → levels adj (suc r) d lo s ≡ levels adj r d lo s
unfolding levels
levels-all n adj few a zero d lo s k early within many = levels-end adj 1 d lo s (omega (arith, k.counted))
levels-all n adj few a (suc r) d lo s k early within many =
    ⊎_elim
    (λ more.
    levels-all n adj few a r (suc d) (length s.reached) (level adj (suc d) s (drop lo s.reached))
    (ready-level n adj (suc d) s (drop lo s.reached) a k (below-drop n s.reached lo k.inside) (omega (arith, k.counted)))
    (omega arith)
    (extends-length s _ (extends-level adj (suc d) s (drop lo s.reached)))
    (omega arith))
    (λ none. levels-end adj (suc (suc r)) d lo s none ∙ sym (levels-end adj (suc r) d lo s none))
    (lt-or-le lo (length s.reached))

module _ (n c : ℕ) (adj : ℕ → List ℕ) (Link : ℕ → ℕ → Type 0) (few : suc n < far) (h : c < n) (a : Adjacency n adj Link) where
  -- so a search that goes farther finds the same
  bfs-more : (r : ℕ) → n ≤ r → bfs adj n c (suc r) ≡ bfs adj n c r
  unfolding bfs
  bfs-more r m = levels-all n adj (omega arith) a.inside r 0 0 (start n c) (ready-start n c h) (le_refl 0) (omega arith) (omega arith)

  bfs-all : (r : ℕ) → n ≤ r → bfs adj n c r ≡ bfs adj n c n
  bfs-all zero m = ap (bfs adj n c) (omega arith)
  bfs-all (suc r) m = ⊎_elim (λ e. ap (bfs adj n c) (sym e)) (λ l. bfs-more r (le_of_suc-le-suc l) ∙ bfs-all r (le_of_suc-le-suc l)) (eq-or-lt_of_le m)

  abbrev entry : ℕ → ℕ
  entry v = get_or (bfs adj n c n).dist v 0

  -- a walk of one link more than there are nodes leads to what it has reached
  walk-near : (v k : ℕ) → v < n → k ≤ suc n → Walk Link c v k → entry v ≡ far → ⊥
  walk-near v k m l p e =
      ⊎_elim
      (λ q. not-le_of_lt (q.1 k p) l)
      (λ q. omega (arith, q.2, ap (λ (s : SearchState). get_or s.dist v 0) (bfs-more n (le_refl n))))
      (bfs-measured n c adj Link (omega arith) h a (suc n) v m)

  -- what it has reached a walk leads to
  near-walk : (v : ℕ) → v < n → (entry v ≡ far → ⊥) → (k : ℕ) × Walk Link c v k × (k ≤ n)
  near-walk v m f = ⊎_elim (λ q. absurd (f q.0)) (λ q. (_, q.0, q.2)) (bfs-measured n c adj Link (omega arith) h a n v m)

  -- What the search reaches is the least closed set that has the centre,
  all-spread : Spread n c adj (bfs adj n c n).dist
  unfolding Below
  all-spread =
      record {
        size = (bfs-ready n c adj Link (omega arith) h a n).size;
        centre = walk-near c 0 h (omega arith) stay;
        closed =
            λ v w m f o.
            let (k, p, l) = near-walk v m f in
            walk-near w (suc k) (subst (λ (x : ℕ). x < n) o.2 (a.inside v m o.0 o.1)) (suc-le-suc l) (step p ((a.joined v w m).0 o));
        least = λ p t closed v m f. (walk-closed h a (λ (x : ℕ). T (p x)) t closed (near-walk v m f).1 refl).1;
      }

  -- and the nodes that any search reaches are listed.
  pub bfs-lists : (r : ℕ) → Lists (bfs adj n c r).reached (bfs adj n c r).dist
  unfolding Distinct
  bfs-lists r =
      let k = bfs-ready n c adj Link (omega arith) h a r in
      let l = bfs-listed n adj c r h (omega arith) a.inside in
      record {
        list = record { below = rw k.size k.inside; distinct = l.distinct; short = omega (arith, k.counted) };
        near = l.near;
        complete = λ v m. l.complete v (subst (λ (x : ℕ). v < x) k.size m);
      }

  -- This stands in the tables that a search leaves.
  pub found-spread : {k r : ℕ} {dist queue : List ℕ} → n ≤ r → Found k dist queue (bfs adj n c r)
      → Spread n c adj dist × (k ≤ length queue) × Lists (take k queue) dist
  found-spread {k} {r} {dist} {queue} m g = (
    rw (g.distances, bfs-all r m) all-spread,
    subst (λ (x : ℕ). x ≤ length queue) (sym (length-take k queue) ∙ ap length g.nodes ∙ sym g.count) (min-le_right k (length queue)),
    rw (g.distances, g.nodes) (bfs-lists r),
  )

-- what is reached from a node is reached from each node that is, where links are followed either way
pub spread-from :
    {n c : ℕ} {adj : ℕ → List ℕ} {Link : ℕ → ℕ → Type 0} {dist : List ℕ} → Adjacency n adj Link → Spread n c adj dist → (x : ℕ) → x < n → Reached dist x →
    Spread n x adj dist
unfolding Below
spread-from {n} {c} {adj} {Link} {dist} a g x h f =
    record {
      size = g.size;
      centre = f;
      closed = g.closed;
      least = λ p t closed v m r. go p t closed (p c) refl v m r;
    }
  where
    back : (v w : ℕ) → v < n → Occurs (adj v) w → (w < n) × Occurs (adj w) v
    back v w m o =
        let l : w < n = subst (λ (y : ℕ). y < n) o.2 (a.inside v m o.0 o.1) in
        (l, (a.joined w v l).1 (⊎_elim inr inl ((a.joined v w m).0 o)))

    others : (p : ℕ → Bool) → ClosedSet n adj p → ClosedSet n adj (λ v. not (p v))
    others p closed v w m t o = at (p w) refl
      where
        at : (b : Bool) → p w ≡ b → T (not b)
        at false e = tt
        at true e = let (l, o') = back v w m o in absurd (T_not (p v) t (closed w v l (true-T e) o'))

    go : (p : ℕ → Bool) → T (p x) → ClosedSet n adj p → (b : Bool) → p c ≡ b → (v : ℕ) → v < n → Reached dist v → T (p v)
    go p t closed true e v m r = g.least p (true-T e) closed v m r
    go p t closed false e v m r =
        let other : T (not (p x)) = g.least (λ y. not (p y)) (true-T (ap not e)) (others p closed) x h f in
        absurd (T_not (p x) other t)

-- What is reached along one adjacency is reached along another, where the two list the same for the nodes of a set that has the centre and, with a
-- node, what is listed for it.
pub spread-agree :
    {n c : ℕ} {adj adj' : ℕ → List ℕ} {dist : List ℕ} (p : ℕ → Bool) → T (p c) → ClosedSet n adj p →
    ((v w : ℕ) → v < n → T (p v) → Occurs (adj v) w ↔ Occurs (adj' v) w) → c < n → Spread n c adj dist → Spread n c adj' dist
spread-agree {n} {c} {adj} {adj'} {dist} p t closed same h g =
    record {
      size = g.size;
      centre = g.centre;
      closed = λ v w m r o. g.closed v w m r ((same v w m (g.least p t closed v m r)).1 o);
      least =
          λ q s closed' v m r.
          both_left (q v) (p v)
          (g.least (λ x. q x && p x) (both_true (q c) (p c) s t)
          (λ x y l a o.
          let b = both_right (q x) (p x) a in
          both_true (q y) (p y) (closed' x y l (both_left (q x) (p x) a) ((same x y l b).0 o)) (closed x y l b o))
          v m r);
    }

-- ---- what it reaches

module _ {n : ℕ} {ss es : List ℕ} (links : Within n ss es) {adj : ℕ → List ℕ} (a : Adjacency n adj (HasLink ss es)) {c : ℕ} (h : c < n) {dist : List ℕ} (g : Spread n c adj dist) where
  -- the nodes that it reaches are those that walks lead to: they are the ball of a radius that all walks are within
  pub spread-ball : (v : ℕ) → v < n → T (inside (ball n ss es c n) v) ↔ Reached dist v
  unfolding Below
  spread-ball v m = (
    λ t. (walk-closed h a (Reached dist) g.centre g.closed ((joined v).0 t).1.1 refl).1,
    g.least (inside (ball n ss es c n)) ((joined c).1 (h, (zero, stay)))
        (λ x w k t o.
        let (j, p) = ((joined x).0 t).1 in
        (joined w).1 (subst (λ y. y < n) o.2 (a.inside x k o.0 o.1), (suc j, step p ((a.joined x w k).0 o))))
        v m,
  )
    where
      joined : (v : ℕ) → T (inside (ball n ss es c n) v) ↔ ((v < n) × ((k : ℕ) × Walk (HasLink ss es) c v k))
      joined = component-iff links c n (le_step (le_refl n))
