-- Laws of the numbers below a bound that pass a test. Assumes nothing.
use Rattle.std.specs.Prelude.{◌≡◌, ◌&&◌, ◌||◌, ◌∷◌, ◌++◌, ◌≤◌, ◌<◌, ◌+◌}
use Rattle.base_lists.specs.Kit.{◌∙◌, sym, ap, refl, ap₂, Bool, false, true, cond, not, and-true, or-false, or_assoc, List, [], ℕ, suc, zero, zero-le, suc-le-suc, not-suc-le-zero, le_of_suc-le-suc, zero-lt-suc, add-zero, zero-add, le_antisymm, add-suc, lt_of_le_of_lt, lt_of_not-le, one-add, T, eqb, eqb-suc-suc, eqb-suc-zero, length, arith, eq-eqb, ne_eqb, eqb-true, eqb-false}
use Rattle.base_lists.specs.List.{any, all_below, any_below}
use Rattle.base_lists.specs.Below.{count_below, least_below, collect}
use Rattle.base_lists.proofs.Tests.{T_true, true-T, false-T}

-- ---- two tests that agree below n

pub all_below-same : (n : ℕ) (p q : ℕ → Bool) → ((i : ℕ) → i < n → p i ≡ q i) → all_below n p ≡ all_below n q
unfolding all_below
all_below-same zero p q e = refl
all_below-same (suc n) p q e =
    ap₂ (λ (a b : Bool). a && b) (e zero (zero-lt-suc n))
    (all_below-same n (λ i. p (suc i)) (λ i. q (suc i)) (λ i h. e (suc i) (suc-le-suc h)))

pub any_below-same : (n : ℕ) (p q : ℕ → Bool) → ((i : ℕ) → i < n → p i ≡ q i) → any_below n p ≡ any_below n q
unfolding any_below
any_below-same zero p q e = refl
any_below-same (suc n) p q e =
    ap₂ (λ (a b : Bool). a || b) (e zero (zero-lt-suc n))
    (any_below-same n (λ i. p (suc i)) (λ i. q (suc i)) (λ i h. e (suc i) (suc-le-suc h)))

pub count_below-same : (n : ℕ) (p q : ℕ → Bool) → ((i : ℕ) → i < n → p i ≡ q i) → count_below n p ≡ count_below n q
unfolding count_below
count_below-same zero p q e = refl
count_below-same (suc n) p q e =
    ap₂ (λ (a : Bool) (b : ℕ). cond a 1 0 + b) (e zero (zero-lt-suc n))
    (count_below-same n (λ i. p (suc i)) (λ i. q (suc i)) (λ i h. e (suc i) (suc-le-suc h)))

pub least_below-same : (n : ℕ) (p q : ℕ → Bool) → ((i : ℕ) → i < n → p i ≡ q i) → least_below n p ≡ least_below n q
unfolding least_below
least_below-same zero p q e = refl
least_below-same (suc n) p q e =
    ap₂ (λ (a : Bool) (b : ℕ). cond a zero (suc b)) (e zero (zero-lt-suc n))
    (least_below-same n (λ i. p (suc i)) (λ i. q (suc i)) (λ i h. e (suc i) (suc-le-suc h)))

pub collect-same : (n : ℕ) (p q : ℕ → Bool) (f : ℕ → ℕ) → ((i : ℕ) → i < n → p i ≡ q i) → collect n p f ≡ collect n q f
unfolding collect
collect-same zero p q f e = refl
collect-same (suc n) p q f e =
    ap₂ (λ (a : Bool) (b : List ℕ). cond a (f zero ∷ b) b) (e zero (zero-lt-suc n))
    (collect-same n (λ i. p (suc i)) (λ i. q (suc i)) (λ i. f (suc i)) (λ i h. e (suc i) (suc-le-suc h)))

-- ---- one number more at the end

pub any_below-suc : (n : ℕ) (p : ℕ → Bool) → any_below (suc n) p ≡ any_below n p || p n
unfolding any_below
any_below-suc zero p = or-false (p zero)
any_below-suc (suc n) p =
    ap (λ (b : Bool). p zero || b) (any_below-suc n (λ i. p (suc i))) ∙ sym (or_assoc (p zero) (any_below n (λ i. p (suc i))) (p (suc n)))

pub count_below-suc : (n : ℕ) (p : ℕ → Bool) → count_below (suc n) p ≡ count_below n p + cond (p n) 1 0
unfolding count_below
count_below-suc zero p = omega arith
count_below-suc (suc n) p = omega (arith, count_below-suc n (λ i. p (suc i)))

-- how many of the first m and of the rest pass
pub count_below-add : (m n : ℕ) (p : ℕ → Bool) → count_below (m + n) p ≡ count_below m p + count_below n (λ i. p (m + i))
unfolding count_below
count_below-add m zero p = rw add-zero (sym (add-zero (count_below m p)))
count_below-add m (suc n) p =
    rw add-suc (omega (arith, count_below-suc (m + n) p, count_below-suc n (λ i. p (m + i)), count_below-add m n p))

pub collect-suc : (n : ℕ) (p : ℕ → Bool) (f : ℕ → ℕ) → collect (suc n) p f ≡ collect n p f ++ cond (p n) (f n ∷ []) []
unfolding collect
collect-suc zero p f = refl
collect-suc (suc n) p f =
    ap (λ (xs : List ℕ). cond (p zero) (f zero ∷ xs) xs) (collect-suc n (λ i. p (suc i)) (λ i. f (suc i)))
    ∙ go (p zero) (collect n (λ i. p (suc i)) (λ i. f (suc i))) (cond (p (suc n)) (f (suc n) ∷ []) [])
  where
    go : (b : Bool) (xs ys : List ℕ) → cond b (f zero ∷ (xs ++ ys)) (xs ++ ys) ≡ cond b (f zero ∷ xs) xs ++ ys
    go true xs ys = refl
    go false xs ys = refl

-- ---- how many

-- at most n numbers below n pass
pub count_below-le : (n : ℕ) (p : ℕ → Bool) → count_below n p ≤ n
unfolding count_below
count_below-le zero p = zero-le
count_below-le (suc n) p = go (p zero) (count_below-le n (λ i. p (suc i)))
  where
    go : (b : Bool) {m : ℕ} → m ≤ n → cond b 1 0 + m ≤ suc n
    go true h = omega arith
    go false h = omega arith

-- what passes fewer numbers counts no more
pub count_below-mono : (n : ℕ) (p q : ℕ → Bool) → ((i : ℕ) → i < n → T (p i) → T (q i)) → count_below n p ≤ count_below n q
unfolding count_below
count_below-mono zero p q f = zero-le
count_below-mono (suc n) p q f =
    go (p zero) (q zero) (f zero (zero-lt-suc n)) (count_below-mono n (λ i. p (suc i)) (λ i. q (suc i)) (λ i h. f (suc i) (suc-le-suc h)))
  where
    go : (a b : Bool) → (T a → T b) → {k m : ℕ} → k ≤ m → cond a 1 0 + k ≤ cond b 1 0 + m
    go true true t h = omega arith
    go true false t h = absurd (t tt)
    go false true t h = omega arith
    go false false t h = omega arith

-- and where it counts as many, the tests agree
pub count_below-equal : (n : ℕ) (p q : ℕ → Bool) → ((i : ℕ) → i < n → T (p i) → T (q i)) → count_below n p ≡ count_below n q
    → (i : ℕ) → i < n → p i ≡ q i
unfolding count_below
count_below-equal zero p q f e i h = absurd (not-suc-le-zero h)
count_below-equal (suc n) p q f e i h =
    go (p zero) (q zero) refl refl (f zero (zero-lt-suc n)) e (count_below-mono n (λ i. p (suc i)) (λ i. q (suc i)) (λ i h. f (suc i) (suc-le-suc h)))
    (count_below-equal n (λ i. p (suc i)) (λ i. q (suc i)) (λ i h. f (suc i) (suc-le-suc h))) i h
  where
    go : (a b : Bool) → p zero ≡ a → q zero ≡ b → (T a → T b) → {k m : ℕ} → cond a 1 0 + k ≡ cond b 1 0 + m → k ≤ m
        → (k ≡ m → (i : ℕ) → i < n → p (suc i) ≡ q (suc i)) → (i : ℕ) → i < suc n → p i ≡ q i
    go true true ea eb t s l r zero h = ea ∙ sym eb
    go true true ea eb t s l r (suc i) h = r (omega arith) i (le_of_suc-le-suc h)
    go true false ea eb t s l r i h = absurd (t tt)
    go false true ea eb t s l r i h = absurd (omega arith)
    go false false ea eb t s l r zero h = ea ∙ sym eb
    go false false ea eb t s l r (suc i) h = r (omega arith) i (le_of_suc-le-suc h)

-- ---- the least

pub least_below-le : (n : ℕ) (p : ℕ → Bool) → least_below n p ≤ n
unfolding least_below
least_below-le zero p = zero-le
least_below-le (suc n) p = go (p zero) (least_below-le n (λ i. p (suc i)))
  where
    go : (b : Bool) {m : ℕ} → m ≤ n → cond b zero (suc m) ≤ suc n
    go true h = zero-le
    go false h = suc-le-suc h

-- nothing below it passes
pub least_below-none : (n : ℕ) (p : ℕ → Bool) (i : ℕ) → i < least_below n p → p i ≡ false
unfolding least_below
least_below-none zero p i h = absurd (not-suc-le-zero h)
least_below-none (suc n) p i h = go (p zero) refl (least_below-none n (λ i. p (suc i))) i h
  where
    go : (b : Bool) → p zero ≡ b → {m : ℕ} → ((i : ℕ) → i < m → p (suc i) ≡ false) → (i : ℕ) → i < cond b zero (suc m) → p i ≡ false
    go true e r i h = absurd (not-suc-le-zero h)
    go false e r zero h = e
    go false e r (suc i) h = r i (le_of_suc-le-suc h)

-- so whatever passes is not below it
pub least_below-min : (n : ℕ) (p : ℕ → Bool) (i : ℕ) → T (p i) → least_below n p ≤ i
least_below-min n p i t = le_of_suc-le-suc (lt_of_not-le (λ h. false-T (least_below-none n p i h) t))

-- it passes, where it is below n
pub least_below-at : (n : ℕ) (p : ℕ → Bool) → least_below n p < n → T (p (least_below n p))
unfolding least_below
least_below-at zero p h = absurd (not-suc-le-zero h)
least_below-at (suc n) p h = go (p zero) refl (least_below-at n (λ i. p (suc i))) h
  where
    go : (b : Bool) → p zero ≡ b → {m : ℕ} → (m < n → T (p (suc m))) → cond b zero (suc m) < suc n → T (p (cond b zero (suc m)))
    go true e r h = true-T e
    go false e r h = r (le_of_suc-le-suc h)

-- where none below n passes, it is n
pub least_below-all : (n : ℕ) (p : ℕ → Bool) → ((i : ℕ) → i < n → p i ≡ false) → least_below n p ≡ n
least_below-all n p none =
    le_antisymm (least_below-le n p) (le_of_suc-le-suc (lt_of_not-le (λ l. false-T (none (least_below n p) l) (least_below-at n p l))))

-- a number below n that passes, with none below it that does, is the least
pub least_below-is : (n : ℕ) (p : ℕ → Bool) (t : ℕ) → t < n → T (p t) → ((i : ℕ) → i < t → p i ≡ false) → least_below n p ≡ t
least_below-is n p t h here none =
    let le : least_below n p ≤ t = least_below-min n p t here in
    le_antisymm le
    (le_of_suc-le-suc (lt_of_not-le (λ l. false-T (none (least_below n p) l) (least_below-at n p (lt_of_le_of_lt le h)))))

-- ---- the list

-- how long the list is
pub length-collect : (n : ℕ) (p : ℕ → Bool) (f : ℕ → ℕ) → length (collect n p f) ≡ count_below n p
unfolding collect count_below
length-collect zero p f = refl
length-collect (suc n) p f = go (p zero) (collect n (λ i. p (suc i)) (λ i. f (suc i))) (length-collect n (λ i. p (suc i)) (λ i. f (suc i)))
  where
    go : (b : Bool) (xs : List ℕ) {m : ℕ} → length xs ≡ m → length (cond b (f zero ∷ xs) xs) ≡ cond b 1 0 + m
    go true xs {m} e = ap suc e ∙ sym (one-add m)
    go false xs {m} e = e ∙ sym (zero-add m)

-- some element of the list passes a test q
pub any-collect : (q : ℕ → Bool) (n : ℕ) (p : ℕ → Bool) (f : ℕ → ℕ) → any q (collect n p f) ≡ any_below n (λ i. p i && q (f i))
unfolding any collect any_below
any-collect q zero p f = refl
any-collect q (suc n) p f = go (p zero) (collect n (λ i. p (suc i)) (λ i. f (suc i))) (any-collect q n (λ i. p (suc i)) (λ i. f (suc i)))
  where
    go : (b : Bool) (xs : List ℕ) {r : Bool} → any q xs ≡ r → any q (cond b (f zero ∷ xs) xs) ≡ (b && q (f zero)) || r
    go true xs e = ap (λ (r : Bool). q (f zero) || r) e
    go false xs e = e

-- the list is empty where no number below n passes
pub collect-none : (n : ℕ) (p : ℕ → Bool) (f : ℕ → ℕ) → ((i : ℕ) → i < n → p i ≡ false) → collect n p f ≡ []
unfolding collect
collect-none zero p f e = refl
collect-none (suc n) p f e = simp (e zero (zero-lt-suc n), collect-none n (λ i. p (suc i)) (λ i. f (suc i)) (λ i h. e (suc i) (suc-le-suc h)))

-- The list begins with the least number t that passes, and goes on with those that pass a test q that leaves t out and agrees with p elsewhere.
pub collect-first : (n : ℕ) (p q : ℕ → Bool) (f : ℕ → ℕ) (t : ℕ) → t < n → T (p t) → ((i : ℕ) → i < t → p i ≡ false)
    → ((i : ℕ) → i < n → q i ≡ p i && not (eqb i t)) → collect n p f ≡ f t ∷ collect n q f
unfolding collect
collect-first zero p q f t h here none e = absurd (not-suc-le-zero h)
collect-first (suc n) p q f zero h here none e =
    simp (
      T_true {b = p zero} here,
      e zero h,
      collect-same n (λ i. p (suc i)) (λ i. q (suc i)) (λ i. f (suc i))
          (λ i l. sym (e (suc i) (suc-le-suc l) ∙ ap (λ (b : Bool). p (suc i) && not b) (eqb-suc-zero i) ∙ and-true (p (suc i)))),
    )
collect-first (suc n) p q f (suc t) h here none e =
    simp (none zero (zero-lt-suc t), e zero (zero-lt-suc n))
    (collect-first n (λ i. p (suc i)) (λ i. q (suc i)) (λ i. f (suc i)) t (le_of_suc-le-suc h) here (λ i l. none (suc i) (suc-le-suc l))
    (λ i l. e (suc i) (suc-le-suc l) ∙ ap (λ (b : Bool). p (suc i) && not b) (eqb-suc-suc i t)))

-- ---- all, none, the first

pub count_below-all : (n : ℕ) → count_below n (λ i. true) ≡ n
unfolding count_below
count_below-all zero = refl
count_below-all (suc n) = omega (arith, count_below-all n)

-- a test that passes below m and nowhere from m on counts m
pub count_below-first : (n m : ℕ) (p : ℕ → Bool) → m ≤ n → ((i : ℕ) → i < m → T (p i)) → ((i : ℕ) → m ≤ i → p i ≡ false) → count_below n p ≡ m
unfolding count_below
count_below-first zero zero p h below from = refl
count_below-first zero (suc m) p h below from = absurd (not-suc-le-zero h)
count_below-first (suc n) zero p h below from =
    rw (from zero zero-le)
    (omega (arith, count_below-first n zero (λ i. p (suc i)) zero-le (λ i l. absurd (not-suc-le-zero l)) (λ i l. from (suc i) zero-le)))
count_below-first (suc n) (suc m) p h below from =
    rw (T_true {b = p zero} (below zero (zero-lt-suc m)))
    (omega (arith, count_below-first n m (λ i. p (suc i)) (le_of_suc-le-suc h) (λ i l. below (suc i) (suc-le-suc l)) (λ i l. from (suc i) (suc-le-suc l))))

-- as many numbers below k pass a test as there are, exactly when all do
eqb-suc : (c k : ℕ) → eqb (1 + c) (suc k) ≡ eqb c k
eqb-suc c k = go (eqb c k) refl
  where
    go : (b : Bool) → eqb c k ≡ b → eqb (1 + c) (suc k) ≡ b
    go true e = eq-eqb (1 + c) (suc k) (omega (arith, eqb-true c k e))
    go false e = ne_eqb (1 + c) (suc k) (λ q. eqb-false c k e (omega arith))

pub count_below-all_below : (k : ℕ) (p : ℕ → Bool) → eqb (count_below k p) k ≡ all_below k p
unfolding count_below all_below
count_below-all_below zero p = refl
count_below-all_below (suc k) p = go (count_below k (λ i. p (suc i))) (p zero) (count_below-le k (λ i. p (suc i))) (count_below-all_below k (λ i. p (suc i)))
  where
    go :
        (c : ℕ) (b : Bool) → c ≤ k → eqb c k ≡ all_below k (λ i. p (suc i)) →
        eqb (cond b 1 0 + c) (suc k) ≡ (b && all_below k (λ i. p (suc i)))
    go c true l e = eqb-suc c k ∙ e
    go c false l e = ne_eqb (0 + c) (suc k) (λ q. omega arith)
