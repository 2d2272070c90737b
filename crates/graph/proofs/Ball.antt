-- The rows of specs/Search mean walks: a ball's row marks the nodes that a walk of at most r links joins to the centre. Assumes nothing.
use Rattle.std.specs.Prelude.{◌≡◌, ◌↔◌, ◌⊎◌, ◌&&◌, ◌||◌, ◌∷◌, ◌≤◌, ◌<◌, ◌+◌}
use Rattle.base_lists.specs.Kit.{◌∙◌, sym, ap, refl, subst, ⊎_elim, inl, inr, ⊎_swap, Bool, cond, List, [], ℕ, suc, zero, zero-le, suc-le-suc, not-suc-le-zero, le_of_suc-le-suc, zero-lt-suc, eq-or-lt_of_le, le_antisymm, le_step, T, eqb, ltb, eqb→eq, ltb→lt, length, get_or, arith, eq-eqb}
use Rattle.base_lists.specs.List.{tabulate, sum, all}
use Rattle.base_lists.proofs.Tests.{both_true, both_left, both_right, either_left, either-right, either-cases, true-T, all-at, cond-test, cond-le, is-cond, cond-mono}
use Rattle.base_lists.proofs.Tables.{length-tabulate, get_d_tabulate}
use Rattle.base_lists.proofs.Rows.{rises-to-rest, get_or-le-sum, sum-bits, sum-progress}
use Rattle.graph.specs.Graph.{Walk, stay, step}
use Rattle.graph.specs.Circuit.{LinkAt, HasLink}
use Rattle.graph.specs.Search.{beside, inside, ball}
use Rattle.graph.proofs.Walks.{walk-along, walk-retarget, walk-reverse}

-- ---- links

-- Every link starts and ends at a node below n. This is all that the laws here ask of a circuit.
pub record Within (n : ℕ) (ss es : List ℕ) : Type 0 where
  pub starts : (v w : ℕ) → HasLink ss es v w → v < n
  pub ends : (v w : ℕ) → HasLink ss es v w → w < n

-- it holds where the starts and the ends are below n, whatever their numbers
pub within : (n : ℕ) (ss es : List ℕ) → ((i : ℕ) → i < length ss → get_or ss i 0 < n) → ((i : ℕ) → i < length es → get_or es i 0 < n) → Within n ss es
unfolding HasLink
within n ss es s e =
    record {
      starts = λ v w l. subst (λ x. x < n) l.1.start (s l.0 l.1.in_starts);
      ends = λ v w l. subst (λ x. x < n) l.1.end (e l.0 l.1.in_ends);
    }

-- it holds where the tests say so
pub within_all : (n : ℕ) (ss es : List ℕ) → T (all (λ s. ltb s n) ss) → T (all (λ e. ltb e n) es) → Within n ss es
within_all n ss es s e = within n ss es (λ i h. ltb→lt _ n (all-at (λ x. ltb x n) ss s i h)) (λ i h. ltb→lt _ n (all-at (λ x. ltb x n) es e i h))

-- a link past the first is a link of the rest, and the other way round
pub link-later : {s e : ℕ} {ss es : List ℕ} {v w i : ℕ} → LinkAt ss es v w i → LinkAt (s ∷ ss) (e ∷ es) v w (suc i)
link-later l = record { in_starts = suc-le-suc l.in_starts; in_ends = suc-le-suc l.in_ends; start = l.start; end = l.end }

pub link-earlier : {s e : ℕ} {ss es : List ℕ} {v w i : ℕ} → LinkAt (s ∷ ss) (e ∷ es) v w (suc i) → LinkAt ss es v w i
link-earlier l = record { in_starts = le_of_suc-le-suc l.in_starts; in_ends = le_of_suc-le-suc l.in_ends; start = l.start; end = l.end }

-- the first link, when it goes from v to w
pub link-first : {s e : ℕ} (ss es : List ℕ) {v w : ℕ} → s ≡ v → e ≡ w → LinkAt (s ∷ ss) (e ∷ es) v w zero
link-first ss es p q = record { in_starts = zero-lt-suc _; in_ends = zero-lt-suc _; start = p; end = q }

-- ---- beside

-- what `beside` means: some link joins v, directions ignored, to a node that passes the test
abbrev pub Beside : List ℕ → List ℕ → (ℕ → Bool) → ℕ → Type 0
Beside ss es p v = (w : ℕ) × (HasLink ss es v w ⊎ HasLink ss es w v) × T (p w)

-- the link from s to e is such a link
abbrev link_passes : ℕ → ℕ → (ℕ → Bool) → ℕ → Bool
link_passes s e p v = (eqb s v && p e) || (eqb e v && p s)

-- what is found is such a link
beside-link : (ss es : List ℕ) (p : ℕ → Bool) (v : ℕ) → T (beside ss es p v) → Beside ss es p v
unfolding beside HasLink
beside-link [] es p v t = absurd t
beside-link (s ∷ ss) [] p v t = absurd t
beside-link (s ∷ ss) (e ∷ es) p v t = ⊎_elim first (λ b. later (beside-link ss es p v b)) (either-cases (link_passes s e p v) (beside ss es p v) t)
  where
    first : T (link_passes s e p v) → Beside (s ∷ ss) (e ∷ es) p v
    first j =
        ⊎_elim
        (λ a. (e, inl (zero, link-first ss es (eqb→eq s v (both_left (eqb s v) (p e) a)) refl), both_right (eqb s v) (p e) a))
        (λ a. (s, inr (zero, link-first ss es refl (eqb→eq e v (both_left (eqb e v) (p s) a))), both_right (eqb e v) (p s) a))
        (either-cases (eqb s v && p e) (eqb e v && p s) j)

    later : Beside ss es p v → Beside (s ∷ ss) (e ∷ es) p v
    later (w, l, q) = (w, ⊎_elim (λ a. inl (suc a.0, link-later a.1)) (λ a. inr (suc a.0, link-later a.1)) l, q)

-- a link that joins v to a node that passes the test is found, by its place
link-beside : (ss es : List ℕ) (p : ℕ → Bool) (v w i : ℕ) → LinkAt ss es v w i ⊎ LinkAt ss es w v i → T (p w) → T (beside ss es p v)
unfolding beside
link-beside [] es p v w i l q = absurd (not-suc-le-zero (⊎_elim (λ a. a.in_starts) (λ a. a.in_starts) l))
link-beside (s ∷ ss) [] p v w i l q = absurd (not-suc-le-zero (⊎_elim (λ a. a.in_ends) (λ a. a.in_ends) l))
link-beside (s ∷ ss) (e ∷ es) p v w zero l q = either_left (link_passes s e p v) (beside ss es p v) (⊎_elim forward backward l)
  where
    forward : LinkAt (s ∷ ss) (e ∷ es) v w zero → T (link_passes s e p v)
    forward a = either_left (eqb s v && p e) (eqb e v && p s) (both_true (eqb s v) (p e) (true-T (eq-eqb s v a.start)) (subst (λ x. T (p x)) (sym a.end) q))

    backward : LinkAt (s ∷ ss) (e ∷ es) w v zero → T (link_passes s e p v)
    backward a = either-right (eqb s v && p e) (eqb e v && p s) (both_true (eqb e v) (p s) (true-T (eq-eqb e v a.end)) (subst (λ x. T (p x)) (sym a.start) q))
link-beside (s ∷ ss) (e ∷ es) p v w (suc i) l q = either-right (link_passes s e p v) (beside ss es p v) (link-beside ss es p v w i (⊎_elim (λ a. inl (link-earlier a)) (λ a. inr (link-earlier a)) l) q)

pub beside-iff : (ss es : List ℕ) (p : ℕ → Bool) (v : ℕ) → T (beside ss es p v) ↔ Beside ss es p v
unfolding HasLink
beside-iff ss es p v = (
  beside-link ss es p v,
  λ (w, l, q). ⊎_elim (λ a. link-beside ss es p v w a.0 (inl a.1) q) (λ a. link-beside ss es p v w a.0 (inr a.1) q) l,
)

-- ---- rows of bits

-- a number at which a row's entry is 1 is below the row's length
pub inside-below : (row : List ℕ) (v : ℕ) → T (inside row v) → v < length row
unfolding inside
inside-below [] v t = absurd t
inside-below (x ∷ xs) zero t = zero-lt-suc _
inside-below (x ∷ xs) (suc v) t = suc-le-suc (inside-below xs v t)

-- the row of bits made from a test
abbrev pub bits : ℕ → (ℕ → Bool) → List ℕ
bits n p = tabulate n (λ v. cond (p v) 1 0)

inside-at : (n : ℕ) (p : ℕ → Bool) (v : ℕ) → v < n → inside (bits n p) v ≡ p v
unfolding inside
inside-at n p v h = ap (λ x. eqb x 1) (get_d_tabulate n (λ i. cond (p i) 1 0) v 0 h) ∙ cond-test (p v)

-- it marks the numbers below n that pass the test
pub inside-bits : (n : ℕ) (p : ℕ → Bool) (v : ℕ) → T (inside (bits n p) v) ↔ ((v < n) × T (p v))
inside-bits n p v = (
  λ t. let h : v < n = subst (λ x. v < x) (length-tabulate n (λ i. cond (p i) 1 0)) (inside-below (bits n p) v t) in (h, subst T (inside-at n p v h) t),
  λ (h, t). subst T (sym (inside-at n p v h)) t,
)

-- its entries are bits
pub bits-le : (n : ℕ) (p : ℕ → Bool) (v : ℕ) → v < n → get_or (bits n p) v 0 ≤ 1
bits-le n p v h = subst (λ x. x ≤ 1) (sym (get_d_tabulate n (λ i. cond (p i) 1 0) v 0 h)) (cond-le (p v))

-- ---- balls

-- the next row: what the row has, and what lies beside it
abbrev grown : ℕ → List ℕ → List ℕ → List ℕ → List ℕ
grown n ss es row = bits n (λ v. inside row v || beside ss es (inside row) v)

module _ (n : ℕ) (ss es : List ℕ) (c : ℕ) where
  ball-suc : (r : ℕ) → ball n ss es c (suc r) ≡ grown n ss es (ball n ss es c r)
  unfolding ball
  ball-suc r = refl

  pub length-ball : (r : ℕ) → length (ball n ss es c r) ≡ n
  unfolding ball
  length-ball zero = length-tabulate n _
  length-ball (suc r) = length-tabulate n _

  -- the entries are bits
  pub ball-bits : (r v : ℕ) → v < n → get_or (ball n ss es c r) v 0 ≤ 1
  unfolding ball
  ball-bits zero v h = bits-le n (λ i. eqb i c) v h
  ball-bits (suc r) v h = bits-le n (λ i. inside (ball n ss es c r) i || beside ss es (inside (ball n ss es c r)) i) v h

  pub ball-entry : (r v : ℕ) → v < n → get_or (ball n ss es c r) v 0 ≡ cond (inside (ball n ss es c r) v) 1 0
  unfolding inside
  ball-entry r v h = is-cond _ (ball-bits r v h)

  -- at radius 0 the centre alone
  pub inside-zero : (v : ℕ) → T (inside (ball n ss es c zero) v) ↔ ((v < n) × (v ≡ c))
  unfolding ball
  inside-zero v =
      let b = inside-bits n (λ i. eqb i c) v in
      (λ t. ((b.0 t).0, eqb→eq v c (b.0 t).1), λ (h, e). b.1 (h, true-T (eq-eqb v c e)))

  -- at each further radius what the ball has, and what lies beside it
  pub inside-suc : (r v : ℕ) → T (inside (ball n ss es c (suc r)) v) ↔ ((v < n) × (T (inside (ball n ss es c r) v) ⊎ Beside ss es (inside (ball n ss es c r)) v))
  unfolding ball
  inside-suc r v =
      let row = ball n ss es c r in
      let b = inside-bits n (λ i. inside row i || beside ss es (inside row) i) v in
      let s = beside-iff ss es (inside row) v in (
        λ t. ((b.0 t).0, ⊎_elim inl (λ q. inr (s.0 q)) (either-cases (inside row v) (beside ss es (inside row) v) (b.0 t).1)),
        λ (h, q). b.1 (h, ⊎_elim (either_left (inside row v) (beside ss es (inside row) v)) (λ a. either-right (inside row v) (beside ss es (inside row) v) (s.1 a)) q),
      )

  -- a ball has nodes below n only
  pub inside-node : (r v : ℕ) → T (inside (ball n ss es c r) v) → v < n
  inside-node r v t = subst (λ x. v < x) (length-ball r) (inside-below (ball n ss es c r) v t)

  -- a larger radius has what a smaller one has
  pub inside-grows : (r v : ℕ) → T (inside (ball n ss es c r) v) → T (inside (ball n ss es c (suc r)) v)
  inside-grows r v t = (inside-suc r v).1 (inside-node r v t, inl t)

  pub inside-mono : (r s v : ℕ) → r ≤ s → T (inside (ball n ss es c r) v) → T (inside (ball n ss es c s) v)
  inside-mono r zero v h t = subst (λ x. T (inside (ball n ss es c x) v)) (le_antisymm h zero-le) t
  inside-mono r (suc s) v h t =
      ⊎_elim
      (λ e. subst (λ x. T (inside (ball n ss es c x) v)) e t)
      (λ l. inside-grows s v (inside-mono r s v (le_of_suc-le-suc l) t))
      (eq-or-lt_of_le h)

  -- What a ball has, a walk of at most r links joins to the centre.
  pub ball-walk : (r v : ℕ) → T (inside (ball n ss es c r) v) → (k : ℕ) × (k ≤ r) × Walk (HasLink ss es) c v k
  ball-walk zero v t = (zero, zero-le, walk-retarget (sym ((inside-zero v).0 t).1) stay)
  ball-walk (suc r) v t = ⊎_elim (λ a. later (ball-walk r v a)) (λ (w, l, a). onward w l (ball-walk r w a)) ((inside-suc r v).0 t).1
    where
      later : (k : ℕ) × (k ≤ r) × Walk (HasLink ss es) c v k → (k : ℕ) × (k ≤ suc r) × Walk (HasLink ss es) c v k
      later (k, h, p) = (k, le_step h, p)

      onward : (w : ℕ) → HasLink ss es v w ⊎ HasLink ss es w v → (k : ℕ) × (k ≤ r) × Walk (HasLink ss es) c w k → (k : ℕ) × (k ≤ suc r) × Walk (HasLink ss es) c v k
      onward w l (k, h, p) = (suc k, suc-le-suc h, step p (⊎_swap l))

  -- ---- the rows come to rest

  -- where a row repeats, the next one does
  ball-stops : (r : ℕ) → ball n ss es c (suc r) ≡ ball n ss es c r → ball n ss es c (suc (suc r)) ≡ ball n ss es c (suc r)
  ball-stops r e = ball-suc (suc r) ∙ ap (grown n ss es) e ∙ sym (ball-suc r)

  -- the number of ones grows, or the row repeats
  pub ball-progress : (r : ℕ) → (sum (ball n ss es c r) < sum (ball n ss es c (suc r))) ⊎ (ball n ss es c (suc r) ≡ ball n ss es c r)
  unfolding inside
  ball-progress r =
      sum-progress (ball n ss es c r) (ball n ss es c (suc r)) (length-ball r ∙ sym (length-ball (suc r)))
      (λ v h. cond-mono _ _ (ball-bits r v (subst (λ x. v < x) (length-ball r) h)) (inside-grows r v))

  -- there are at most n ones
  sum-ball-le : (r : ℕ) → sum (ball n ss es c r) ≤ n
  sum-ball-le r = subst (λ x. sum (ball n ss es c r) ≤ x) (length-ball r) (sum-bits (ball n ss es c r) (λ v h. ball-bits r v (subst (λ x. v < x) (length-ball r) h)))

  -- the centre is a one at radius 0
  sum-ball-zero : c < n → 1 ≤ sum (ball n ss es c zero)
  unfolding inside
  sum-ball-zero h = omega (arith, get_or-le-sum (ball n ss es c zero) c, eqb→eq (get_or (ball n ss es c zero) c 0) 1 ((inside-zero c).1 (h, refl)))

  -- From radius n - 1 on, the rows are one.
  pub ball-final : c < n → (m : ℕ) → n ≤ suc m → (r : ℕ) → m ≤ r → ball n ss es c r ≡ ball n ss es c m
  ball-final h m l = rises-to-rest (ball n ss es c) ball-stops sum ball-progress n sum-ball-le m (omega (arith, sum-ball-zero h))

  -- a ball that has a node has a centre
  pub inside-centre : (r v : ℕ) → T (inside (ball n ss es c r) v) → c < n
  inside-centre zero v t = subst (λ x. x < n) ((inside-zero v).0 t).1 ((inside-zero v).0 t).0
  inside-centre (suc r) v t = ⊎_elim (inside-centre r v) (λ (w, l, a). inside-centre r w a) ((inside-suc r v).0 t).1

  -- what any ball has, the one at radius n - 1 has
  pub inside-final : (m : ℕ) → n ≤ suc m → (r v : ℕ) → T (inside (ball n ss es c r) v) → T (inside (ball n ss es c m) v)
  inside-final m l r v t =
      subst (λ row. T (inside row v)) (ball-final (inside-centre r v t) m l (r + m) (omega arith))
      (inside-mono r (r + m) v (omega arith) t)

-- ---- walks are found

module _ {n : ℕ} {ss es : List ℕ} (links : Within n ss es) where
  -- a walk from a node ends at a node
  pub walk-node : {v w k : ℕ} → Walk (HasLink ss es) v w k → v < n → w < n
  walk-node p h = walk-along (λ v. v < n) (λ v w l _. ⊎_elim (links.ends v w) (links.starts w v) l) p h

  -- A walk of k links from the centre leads into the ball at radius k,
  walk_inside : (c : ℕ) → c < n → {v k : ℕ} → Walk (HasLink ss es) c v k → T (inside (ball n ss es c k) v)
  walk_inside c h stay = (inside-zero n ss es c c).1 (h, refl)
  walk_inside c h (step {w} {x} {n = k} p l) = (inside-suc n ss es c k x).1 (walk-node (step p l) h, inr (w, ⊎_swap l, walk_inside c h p))

  -- and into each ball at a larger radius,
  pub walk-ball : (c : ℕ) → c < n → {v k : ℕ} → Walk (HasLink ss es) c v k → (r : ℕ) → k ≤ r → T (inside (ball n ss es c r) v)
  walk-ball c h {v} {k} p r l = inside-mono n ss es c k r v l (walk_inside c h p)

  -- so the ball at radius r has the nodes that a walk of at most r links joins to the centre;
  pub ball-iff : (c r v : ℕ) → T (inside (ball n ss es c r) v) ↔ ((v < n) × ((k : ℕ) × (k ≤ r) × Walk (HasLink ss es) c v k))
  ball-iff c r v = (λ t. (inside-node n ss es c r v t, ball-walk n ss es c r v t), λ (h, (k, l, p)). walk-ball c (walk-node (walk-reverse p) h) p r l)

  -- and, however long it is, into the ball at radius n - 1,
  pub walk-final : (c : ℕ) → c < n → {v k : ℕ} → Walk (HasLink ss es) c v k → (m : ℕ) → n ≤ suc m → T (inside (ball n ss es c m) v)
  walk-final c h {v} {k} p m l = inside-final n ss es c m l k v (walk_inside c h p)

  -- which is so the component of its centre.
  pub component-iff : (c m : ℕ) → n ≤ suc m → (v : ℕ) → T (inside (ball n ss es c m) v) ↔ ((v < n) × ((k : ℕ) × Walk (HasLink ss es) c v k))
  component-iff c m l v = (
    λ t. let (k, _, p) = ball-walk n ss es c m v t in (inside-node n ss es c m v t, (k, p)),
    λ (h, (k, p)). walk-final c (walk-node (walk-reverse p) h) p m l,
  )
