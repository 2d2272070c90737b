-- Laws of walks and distances, over any links and any graph. Assumes nothing.
use Rattle.std.specs.Prelude.{◌≡◌, ◌⊎◌, ◌≤◌, ◌+◌}
use Rattle.base_lists.specs.Kit.{sym, subst, ⊎_swap, ℕ, suc, zero-add, le_antisymm, suc-add}
use Rattle.graph.specs.Graph.{Graph, Walk, stay, step, Distance, Radius}

-- ---- walks

module _ {Link : ℕ → ℕ → Type 0} where
  -- a walk of one link
  pub walk-single : {v w : ℕ} → Link v w ⊎ Link w v → Walk Link v w 1
  walk-single l = step stay l

  -- a walk with its length, or its last node, named otherwise
  pub walk-recount : {v w m k : ℕ} → m ≡ k → Walk Link v w m → Walk Link v w k
  walk-recount {v} {w} e p = subst (Walk Link v w) e p

  pub walk-retarget : {v w x k : ℕ} → w ≡ x → Walk Link v w k → Walk Link v x k
  walk-retarget {v} {k = k} e p = subst (λ y. Walk Link v y k) e p

  -- a link before a walk
  pub walk-cons : {v w x k : ℕ} → Link v w ⊎ Link w v → Walk Link w x k → Walk Link v x (suc k)
  walk-cons l stay = step stay l
  walk-cons l (step p m) = step (walk-cons l p) m

  pub walk-reverse : {v w k : ℕ} → Walk Link v w k → Walk Link w v k
  walk-reverse stay = stay
  walk-reverse (step p l) = walk-cons (⊎_swap l) (walk-reverse p)

  -- one walk after another
  pub walk-append : {v w x m k : ℕ} → Walk Link v w m → Walk Link w x k → Walk Link v x (k + m)
  walk-append p stay = walk-recount (sym (zero-add _)) p
  walk-append p (step q l) = walk-recount (sym (suc-add _ _)) (step (walk-append p q) l)

  -- what a link hands from either of its nodes to the other, a walk hands from its first node to its last
  pub walk-along : (P : ℕ → Type 0) → ((v w : ℕ) → Link v w ⊎ Link w v → P v → P w) → {v w k : ℕ} → Walk Link v w k → P v → P w
  walk-along P f stay h = h
  walk-along P f (step {w} {x} p l) h = f w x l (walk-along P f p h)

-- ---- distances

module _ {G : Graph} where
  pub distance-unique : {v w d e : ℕ} → Distance G v w d → Distance G v w e → d ≡ e
  distance-unique {d = d} {e = e} p q = le_antisymm (p.shortest e q.walk) (q.shortest d p.walk)

  -- the radius is the largest of the distances, so there is one at most
  radius-le : {r s : ℕ} → Radius G r → Radius G s → r ≤ s
  radius-le {s = s} p q =
      let (v, w, nv, nw, far) = p.attained in
      let (d, near, le) = q.reached v w nv nw in
      subst (λ x. x ≤ s) (distance-unique near far) le

  pub radius-unique : {r s : ℕ} → Radius G r → Radius G s → r ≡ s
  radius-unique p q = le_antisymm (radius-le p q) (radius-le q p)
