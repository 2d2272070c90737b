-- The rank of a number that passes a test is how many numbers before it pass. The collected list has at each rank the number of that
-- rank, and a list of lists collected row by row is one collected list. Assumes nothing.
use Rattle.std.specs.Prelude.{◌≡◌, ◌⊎◌, ◌||◌, ◌∷◌, ◌++◌, ◌≤◌, ◌<◌, ◌+◌, ◌-◌, ◌*◌, ◌/◌, ◌%◌}
use Rattle.base_lists.specs.Kit.{◌∙◌, sym, ap, refl, ap₂, ⊎_elim, inl, inr, Bool, false, true, cond, List, append-nil, append_assoc, ℕ, suc, zero, zero-le, suc-le-suc, not-suc-le-zero, le_of_suc-le-suc, zero-lt-suc, eq-or-lt_of_le, add-zero, zero-add, le_antisymm, add-suc, lt_of_not-le, div-add-mod', add-sub_of_le, div-lt_iff_lt-mul, mod-eq_of_lt, div-eq_of_lt, le-div_iff_mul-le, suc-mul, div-mul-le_self, mul-add-div_right, mul-add-mod_self_right, zero-mul, one-add, T, eqb, eqb→eq, get_or, arith, eq-eqb}
use Rattle.base_lists.specs.List.{any_below}
use Rattle.base_lists.specs.Below.{count_below, collect, concat_below}
use Rattle.base_lists.proofs.Tests.{T_true, true-T, either_left, either-right, any_below-at, at-any_below}
use Rattle.base_lists.proofs.Below.{count_below-mono, collect-none, collect-suc}

-- ---- ranks

-- a number that passes has a smaller rank than every later one
pub rank_lt : (i j : ℕ) (p : ℕ → Bool) → i < j → T (p i) → count_below i p < count_below j p
unfolding count_below
rank_lt zero zero p h t = absurd (not-suc-le-zero h)
rank_lt (suc i) zero p h t = absurd (not-suc-le-zero h)
rank_lt zero (suc j) p h t = rw (T_true {b = p zero} t) (omega arith)
rank_lt (suc i) (suc j) p h t = omega (arith, rank_lt i j (λ i. p (suc i)) (le_of_suc-le-suc h) t)

-- so two numbers that pass with equal ranks are one
pub rank-injective : (i j : ℕ) (p : ℕ → Bool) → T (p i) → T (p j) → count_below i p ≡ count_below j p → i ≡ j
rank-injective i j p s t e =
    le_antisymm (le_of_suc-le-suc (lt_of_not-le (λ h. omega (arith, rank_lt j i p h t))))
    (le_of_suc-le-suc (lt_of_not-le (λ h. omega (arith, rank_lt i j p h s))))

-- a later number has no smaller rank
rank_mono : (i j : ℕ) (p : ℕ → Bool) → i ≤ j → count_below i p ≤ count_below j p
unfolding count_below
rank_mono zero j p h = zero-le
rank_mono (suc i) zero p h = absurd (not-suc-le-zero h)
rank_mono (suc i) (suc j) p h = omega (arith, rank_mono i j (λ i. p (suc i)) (le_of_suc-le-suc h))

-- so the number of smaller rank is the smaller one
pub rank_rises : (i j : ℕ) (p : ℕ → Bool) → count_below i p < count_below j p → i < j
rank_rises i j p h = lt_of_not-le (λ l. omega (arith, rank_mono j i p l))

-- every number below the count is a rank
pub rank-onto : (n : ℕ) (p : ℕ → Bool) (a : ℕ) → a < count_below n p → (i : ℕ) × (i < n) × T (p i) × (count_below i p ≡ a)
unfolding count_below
rank-onto zero p a h = absurd (not-suc-le-zero h)
rank-onto (suc n) p a h = go (p zero) refl a h (rank-onto n (λ i. p (suc i)))
  where
    go :
        (b : Bool) → p zero ≡ b → (a : ℕ) → a < cond b 1 0 + count_below n (λ i. p (suc i)) →
        ((a : ℕ) → a < count_below n (λ i. p (suc i)) → (i : ℕ) × (i < n) × T (p (suc i)) × (count_below i (λ i. p (suc i)) ≡ a)) →
        (i : ℕ) × (i < suc n) × T (p i) × (count_below i p ≡ a)
    go true e zero h r = (zero, zero-lt-suc n, true-T e, refl)
    go true e (suc a) h r =
        let (i, l, t, c) = r a (omega arith) in
        (suc i, suc-le-suc l, t, rw e (omega arith))
    go false e a h r =
        let (i, l, t, c) = r a (omega arith) in
        (suc i, suc-le-suc l, t, rw e (omega arith))

-- the collected list has at each rank what is collected of the number of that rank
pub collect-rank : (n : ℕ) (p : ℕ → Bool) (f : ℕ → ℕ) (i d : ℕ) → i < n → T (p i) → get_or (collect n p f) (count_below i p) d ≡ f i
unfolding collect count_below
collect-rank zero p f i d h t = absurd (not-suc-le-zero h)
collect-rank (suc n) p f zero d h t = rw (T_true {b = p zero} t)
collect-rank (suc n) p f (suc i) d h t =
    go (p zero) (collect n (λ i. p (suc i)) (λ i. f (suc i))) (count_below i (λ i. p (suc i)))
    (collect-rank n (λ i. p (suc i)) (λ i. f (suc i)) i d (le_of_suc-le-suc h) t)
  where
    go :
        (b : Bool) (xs : List ℕ) (c : ℕ) → get_or xs c d ≡ f (suc i) →
        get_or (cond b (f zero ∷ xs) xs) (cond b 1 0 + c) d ≡ f (suc i)
    go true xs c e = rw one-add e
    go false xs c e = rw zero-add e

-- ---- how many pass

count-either : (n : ℕ) (p q : ℕ → Bool) → count_below n (λ i. p i || q i) ≤ count_below n p + count_below n q
unfolding count_below
count-either zero p q = zero-le
count-either (suc n) p q =
    go (p zero) (q zero) (count_below n (λ i. p (suc i))) (count_below n (λ i. q (suc i))) (count-either n (λ i. p (suc i)) (λ i. q (suc i)))
  where
    go : (a b : Bool) (x y : ℕ) {z : ℕ} → z ≤ x + y → cond (a || b) 1 0 + z ≤ (cond a 1 0 + x) + (cond b 1 0 + y)
    go true true x y h = omega arith
    go true false x y h = omega arith
    go false true x y h = omega arith
    go false false x y h = omega arith

-- one number at most is c
count-one : (n c : ℕ) → count_below n (eqb c) ≤ 1
count-one n c =
    le_of_suc-le-suc
    (lt_of_not-le
    (λ h.
    let (i, _, s, e) = rank-onto n (eqb c) 0 (omega arith) in
    let (j, _, t, d) = rank-onto n (eqb c) 1 (omega arith) in
    let same = ap (λ (x : ℕ). count_below x (eqb c)) (sym (eqb→eq c i s) ∙ eqb→eq c j t) in
    omega arith))

-- a rule has at most m values at the numbers below m
pub count-images :
    (n m : ℕ) (p : ℕ → Bool) (h : ℕ → ℕ) → ((i : ℕ) → i < n → T (p i) → (j : ℕ) × (j < m) × (h j ≡ i)) → count_below n p ≤ m
count-images n zero p h w =
    le_of_suc-le-suc
    (lt_of_not-le (λ l. let (i, b, t, _) = rank-onto n p 0 l in not-suc-le-zero (w i b t).1))
count-images n (suc m) p h w =
    omega (
      arith,
      count_below-mono n p (λ i. eqb (h zero) i || later i) (λ i b t. split i (w i b t)),
      count-either n (eqb (h zero)) later,
      count-one n (h zero),
      count-images n m later (λ j. h (suc j)) (λ i b t. let (j, l, e) = any_below-at m (λ j. eqb (h (suc j)) i) t in (j, l, eqb→eq (h (suc j)) i e)),
    )
  where
    later : ℕ → Bool
    later i = any_below m (λ j. eqb (h (suc j)) i)

    split : (i : ℕ) → (j : ℕ) × (j < suc m) × (h j ≡ i) → T (eqb (h zero) i || later i)
    split i (zero, l, e) = either_left (eqb (h zero) i) (later i) (true-T (eq-eqb (h zero) i e))
    split i (suc j, l, e) =
        either-right (eqb (h zero) i) (later i)
        (at-any_below m (λ j. eqb (h (suc j)) i) j (le_of_suc-le-suc l) (true-T (eq-eqb (h (suc j)) i e)))

-- ---- the collected list, piece by piece

-- the numbers below m, and those that follow
collect-append :
    (m n : ℕ) (p : ℕ → Bool) (f : ℕ → ℕ) → collect (m + n) p f ≡ collect m p f ++ collect n (λ i. p (m + i)) (λ i. f (m + i))
unfolding collect
collect-append m zero p f = rw add-zero (sym (append-nil (collect m p f)))
collect-append m (suc n) p f =
    rw (add-suc, collect-suc (m + n), collect-append m n p f, collect-suc n (λ i. p (m + i))) (append_assoc (collect m p f) _ _)

-- numbers from n on that do not pass add nothing
pub collect-wider :
    (n m : ℕ) (p : ℕ → Bool) (f : ℕ → ℕ) → n ≤ m → ((i : ℕ) → n ≤ i → i < m → p i ≡ false) → collect n p f ≡ collect m p f
collect-wider n m p f h none =
    sym (append-nil (collect n p f))
    ∙ ap (λ (xs : List ℕ). collect n p f ++ xs)
    (sym (collect-none (m - n) (λ i. p (n + i)) (λ i. f (n + i)) (λ i l. none (n + i) (omega arith) (omega arith))))
    ∙ sym (collect-append n (m - n) p f)
    ∙ ap (λ (k : ℕ). collect k p f) (add-sub_of_le h)

-- two tests and two rules that agree below n
pub collect-agree :
    (n : ℕ) (p q : ℕ → Bool) (f g : ℕ → ℕ) → ((i : ℕ) → i < n → p i ≡ q i) → ((i : ℕ) → i < n → f i ≡ g i) →
    collect n p f ≡ collect n q g
unfolding collect
collect-agree zero p q f g d e = refl
collect-agree (suc n) p q f g d e =
    rw (
      d zero (zero-lt-suc n),
      e zero (zero-lt-suc n),
      collect-agree n (λ i. p (suc i)) (λ i. q (suc i)) (λ i. f (suc i)) (λ i. g (suc i))
          (λ i h. d (suc i) (suc-le-suc h)) (λ i h. e (suc i) (suc-le-suc h)),
    )

-- ---- rows of k pairs: pair number a k + b is (a, b)

module _ (k : ℕ) (some : zero < k) where
  pub pair_row : (a b : ℕ) → b < k → (a * k + b) / k ≡ a
  pair_row a b h = mul-add-div_right some a b ∙ rw (div-eq_of_lt h) (add-zero a)

  pub pair-column : (a b : ℕ) → b < k → (a * k + b) % k ≡ b
  pair-column a b h = mul-add-mod_self_right a k b ∙ mod-eq_of_lt h

  pub pair-below : (m a b : ℕ) → a < m → b < k → a * k + b < m * k
  pair-below m a b h l = (div-lt_iff_lt-mul some).0 (rw (pair_row a b l) h)

  -- in the order of their numbers they rise by row, then by column
  pub pair-order : (x y : ℕ) → x < y → (x / k < y / k) ⊎ ((x / k ≡ y / k) × (x % k < y % k))
  pair-order x y h =
      let low : x / k * k ≤ y = omega (arith, div-mul-le_self x k) in
      ⊎_elim
      (λ e. inr (e, let same = ap (λ (z : ℕ). z * k) e in omega (arith, div-add-mod' x k, div-add-mod' y k)))
      inl
      (eq-or-lt_of_le ((le-div_iff_mul-le some).1 low))

  -- pairs collected in the order of their numbers are collected row by row
  pub collect-rows :
      (m : ℕ) (q : ℕ → ℕ → Bool) (f : ℕ → ℕ → ℕ) →
      collect (m * k) (λ i. q (i / k) (i % k)) (λ i. f (i / k) (i % k)) ≡ concat_below m (λ a. collect k (q a) (f a))
  unfolding concat_below collect
  collect-rows zero q f = rw zero-mul
  collect-rows (suc m) q f =
      rw (suc-mul, collect-append (m * k) k, collect-rows m q f)
      (ap (λ (xs : List ℕ). concat_below m (λ a. collect k (q a) (f a)) ++ xs)
      (collect-agree k _ (q m) _ (f m)
      (λ b h. ap₂ q (pair_row m b h) (pair-column m b h))
      (λ b h. ap₂ f (pair_row m b h) (pair-column m b h))))
