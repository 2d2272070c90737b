-- Directed paths: followed backwards, and the ends of those of 1 to h links as a list. Assumes nothing.
use Rattle.std.specs.Prelude.{◌≡◌, ◌↔◌, ◌⊎◌, ◌∷◌, ◌≤◌, ◌<◌}
use Rattle.base_lists.specs.Kit.{sym, refl, subst, ⊎_elim, inl, inr, List, [], ℕ, suc, zero, suc-le-suc, not-suc-le-zero, le_of_suc-le-suc, zero-lt-suc, le_trans, length, get_or, arith}
use Rattle.base_lists.specs.List.{Occurs}
use Rattle.graph.proofs.BfsScan.{occurs-append}
use Rattle.simulation.specs.Closed.{Relation, ◌⊆◌}
use Rattle.simulation.specs.Simulation.{Direction, forwards, backwards, Along}
use Rattle.bounded.specs.Path.{Path, end, link, PathWithin}
use Rattle.bounded.specs.Problem.{gather, within}

-- ---- paths

-- one link more, at the end
path-more : {Link : Relation} {v w x n : ℕ} → Path Link v w n → Link w x → Path Link v x (suc n)
path-more end l = link l end
path-more (link k p) l = link k (path-more p l)

-- the same path followed backwards
path-back : {Link : Relation} {v w n : ℕ} → Path Link v w n → Path (λ x y. Link y x) w v n
path-back end = end
path-back (link l p) = path-more (path-back p) l

-- a path of links that are all of another kind too
pub path-wider : {R S : Relation} → R ⊆ S → {v w n : ℕ} → Path R v w n → Path S v w n
path-wider more end = end
path-wider more (link {v = v} {w = w} l p) = link (more v w l) (path-wider more p)

pub within_wider : {R S : Relation} → R ⊆ S → {h k v w : ℕ} → h ≤ k → PathWithin R h v w → PathWithin S k v w
within_wider more h p = record { links = p.links; some = p.some; most = le_trans p.most h; path = path-wider more p.path }

-- A path is followed along a direction from one of its ends to the other.
pub within-along : (Link : Relation) (d : Direction) (h v w : ℕ) → PathWithin (Along Link d) h v w ↔ Along (PathWithin Link h) d v w
unfolding Along
within-along Link forwards h v w = (λ p. within_wider (λ x y l. l) (omega arith) p, λ p. within_wider (λ x y l. l) (omega arith) p)
within-along Link backwards h v w = (
  λ p. record { links = p.links; some = p.some; most = p.most; path = path-wider (λ x y l. l) (path-back p.path) },
  λ p. record { links = p.links; some = p.some; most = p.most; path = path-wider (λ x y l. l) (path-back p.path) },
)

-- a path of one link
pub one-path : {Link : Relation} {v w : ℕ} → Link v w → PathWithin Link 1 v w
one-path l = record { links = 1; some = omega arith; most = omega arith; path = link l end }

-- the first link of a path, and the rest
path-first : {Link : Relation} {v w n : ℕ} → Path Link v w n → 1 ≤ n → (x : ℕ) × (k : ℕ) × Link v x × Path Link x w k × (n ≡ suc k)
path-first end s = absurd (omega arith)
path-first (link {w = x} {n = k} l p) s = (x, k, l, p, refl)

-- a path of no link ends where it begins
path-none : {Link : Relation} {v w n : ℕ} → Path Link v w n → n ≡ 0 → v ≡ w
path-none end e = refl
path-none (link l p) e = absurd (omega (arith, e))

pub path-one : {Link : Relation} {v w : ℕ} → PathWithin Link 1 v w → Link v w
path-one {Link} {v} p =
    let (x, k, l, q, e) = path-first p.path p.some in
    subst (λ y. Link v y) (path-none q (omega (arith, p.most, e))) l

-- ---- their ends as a list

-- an entry of the lists over the entries of a list
pub gather-occurs : (f : ℕ → List ℕ) (ws : List ℕ) (x : ℕ) → Occurs (gather f ws) x ↔ ((w : ℕ) × Occurs ws w × Occurs (f w) x)
unfolding gather
gather-occurs f [] x = (λ (i, h, e). absurd (not-suc-le-zero h), λ (w, (i, h, e), o). absurd (not-suc-le-zero h))
gather-occurs f (w ∷ ws) x =
    let rest = gather-occurs f ws x in
    let both = occurs-append x (f w) (gather f ws) in (
      λ o.
          ⊎_elim (λ a. (w, (zero, zero-lt-suc _, refl), a))
          (λ b. let (y, (i, h, e), c) = rest.0 b in (y, (suc i, suc-le-suc h, e), c))
          (both.0 o),
      λ (y, (i, h, e), o). both.1 (here rest.1 y i h e o),
    )
  where
    here :
        ((y : ℕ) × Occurs ws y × Occurs (f y) x → Occurs (gather f ws) x) → (y i : ℕ) → i < suc (length ws) → get_or (w ∷ ws) i 0 ≡ y →
        Occurs (f y) x → Occurs (f w) x ⊎ Occurs (gather f ws) x
    here more y zero h e o = inl (subst (λ z. Occurs (f z) x) (sym e) o)
    here more y (suc i) h e o = inr (more (y, (i, le_of_suc-le-suc h, e), o))

module _ (near : ℕ → List ℕ) where
  -- from a node to those in its list
  abbrev pub Near : Relation
  Near v w = Occurs (near v) w

  -- the list has the ends of the paths of 1 to h links
  to-path : (h v w : ℕ) → Occurs (within near h v) w → PathWithin Near h v w
  unfolding within
  to-path zero v w (i, h, e) = absurd (not-suc-le-zero h)
  to-path (suc h) v w o = let (x, l, q) = (gather-occurs (λ x. x ∷ within near h x) (near v) w).0 o in more (to-path h) x l q
    where
      more :
          ((x w : ℕ) → Occurs (within near h x) w → PathWithin Near h x w) → (x : ℕ) → Near v x → Occurs (x ∷ within near h x) w →
          PathWithin Near (suc h) v w
      more rest x l (zero, h', e) = within_wider (λ y z m. m) (omega arith) (one-path (subst (λ y. Near v y) e l))
      more rest x l (suc i, h', e) =
          let p = rest x w (i, le_of_suc-le-suc h', e) in
          record { links = suc p.links; some = omega arith; most = suc-le-suc p.most; path = link l p.path }

  from-path : (h v w n : ℕ) → n ≤ h → 1 ≤ n → Path Near v w n → Occurs (within near h v) w
  unfolding within
  from-path zero v w n m s p = absurd (omega arith)
  from-path (suc h) v w n m s p =
      let (x, k, l, q, e) = path-first p s in
      (gather-occurs (λ x. x ∷ within near h x) (near v) w).1 (x, l, more (from-path h) x k q (omega (arith, e)))
    where
      more :
          ((x w n : ℕ) → n ≤ h → 1 ≤ n → Path Near x w n → Occurs (within near h x) w) → (x k : ℕ) → Path Near x w k → k ≤ h →
          Occurs (x ∷ within near h x) w
      more rest x zero q b = (zero, zero-lt-suc _, path-none q refl)
      more rest x (suc k) q b = let (i, l, e) = rest x w (suc k) b (omega arith) q in (suc i, suc-le-suc l, e)

  pub within-iff : (h v w : ℕ) → Occurs (within near h v) w ↔ PathWithin Near h v w
  within-iff h v w = (to-path h v w, λ p. from-path h v w p.links p.most p.some p.path)
