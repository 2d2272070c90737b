-- What the Boolean tests of specs/List mean, and how they are taken apart and put together. Assumes nothing.
use Rattle.std.specs.Prelude.{◌≡◌, ◌⊎◌, ◌&&◌, ◌||◌, ◌∷◌, ◌<◌, ◌≤◌}
use Rattle.base_lists.specs.Kit.{sym, refl, subst, inl, inr, Bool, false, true, not, List, [], ℕ, suc, zero, suc-le-suc, not-suc-le-zero, le_of_suc-le-suc, zero-lt-suc, T, length, get_or, cond, eqb, arith, zero-le, eqb→eq, ltb, ltb-false, ltb-true, eqb-true, eqb-false, eq-eqb}
use Rattle.base_lists.specs.List.{all, any, all_below, any_below}

-- ---- both, either, not

pub both_true : (a b : Bool) → T a → T b → T (a && b)
both_true true b p q = q
both_true false b p q = p

pub both_left : (a b : Bool) → T (a && b) → T a
both_left true b t = tt
both_left false b t = t

pub both_right : (a b : Bool) → T (a && b) → T b
both_right true b t = t
both_right false b t = absurd t

pub either_left : (a b : Bool) → T a → T (a || b)
either_left true b t = tt
either_left false b t = absurd t

pub either-right : (a b : Bool) → T b → T (a || b)
either-right true b t = tt
either-right false b t = t

pub either-cases : (a b : Bool) → T (a || b) → T a ⊎ T b
either-cases true b t = inl tt
either-cases false b t = inr t

pub both_false : (a b : Bool) → T a → (a && b) ≡ false → b ≡ false
both_false true b t e = e
both_false false b t e = absurd t

pub not-true-false : (b : Bool) → not b ≡ false → T b
not-true-false true e = tt
not-true-false false e = subst T e tt

pub T_true : {b : Bool} → T b → b ≡ true
T_true {b = true} t = refl
T_true {b = false} t = absurd t

pub T_false : {b : Bool} → (T b → ⊥) → b ≡ false
T_false {b = true} f = absurd (f tt)
T_false {b = false} f = refl

pub true-T : {b : Bool} → b ≡ true → T b
true-T e = subst T (sym e) tt

pub false-T : {b : Bool} → b ≡ false → T b → ⊥
false-T e t = subst T e t

-- two tests that hold under the same conditions are equal
pub same_test : {a b : Bool} → (T a → T b) → (T b → T a) → a ≡ b
same_test {a = true} {b = true} f g = refl
same_test {a = true} {b = false} f g = absurd (f tt)
same_test {a = false} {b = true} f g = absurd (g tt)
same_test {a = false} {b = false} f g = refl

-- a test holds or does not
pub decide : (b : Bool) → T b ⊎ (T b → ⊥)
decide true = inl tt
decide false = inr (λ t. t)

-- ---- every element, some element

pub all-at : (p : ℕ → Bool) (xs : List ℕ) → T (all p xs) → (i : ℕ) → i < length xs → T (p (get_or xs i 0))
unfolding all
all-at p [] t i h = absurd (not-suc-le-zero h)
all-at p (x ∷ xs) t zero h = both_left (p x) (all p xs) t
all-at p (x ∷ xs) t (suc i) h = all-at p xs (both_right (p x) (all p xs) t) i (le_of_suc-le-suc h)

pub at_all : (p : ℕ → Bool) (xs : List ℕ) → ((i : ℕ) → i < length xs → T (p (get_or xs i 0))) → T (all p xs)
unfolding all
at_all p [] f = tt
at_all p (x ∷ xs) f = both_true (p x) (all p xs) (f zero (zero-lt-suc _)) (at_all p xs (λ i h. f (suc i) (suc-le-suc h)))

pub any_at : (p : ℕ → Bool) (xs : List ℕ) → T (any p xs) → (i : ℕ) × (i < length xs) × T (p (get_or xs i 0))
unfolding any
any_at p [] t = absurd t
any_at p (x ∷ xs) t = go (either-cases (p x) (any p xs) t) (any_at p xs)
  where
    go : T (p x) ⊎ T (any p xs) → (T (any p xs) → (i : ℕ) × (i < length xs) × T (p (get_or xs i 0))) → (i : ℕ) × (i < length (x ∷ xs)) × T (p (get_or (x ∷ xs) i 0))
    go (inl h) r = (zero, zero-lt-suc _, h)
    go (inr h) r = (suc (r h).0, suc-le-suc (r h).1, (r h).2)

pub at-any : (p : ℕ → Bool) (xs : List ℕ) (i : ℕ) → i < length xs → T (p (get_or xs i 0)) → T (any p xs)
unfolding any
at-any p [] i h t = absurd (not-suc-le-zero h)
at-any p (x ∷ xs) zero h t = either_left (p x) (any p xs) t
at-any p (x ∷ xs) (suc i) h t = either-right (p x) (any p xs) (at-any p xs i (le_of_suc-le-suc h) t)

-- ---- every number below a bound, some number below a bound

pub all_below-at : (n : ℕ) (p : ℕ → Bool) → T (all_below n p) → (i : ℕ) → i < n → T (p i)
unfolding all_below
all_below-at zero p t i h = absurd (not-suc-le-zero h)
all_below-at (suc n) p t zero h = both_left (p zero) (all_below n (λ i. p (suc i))) t
all_below-at (suc n) p t (suc i) h = all_below-at n (λ i. p (suc i)) (both_right (p zero) (all_below n (λ i. p (suc i))) t) i (le_of_suc-le-suc h)

pub at-all_below : (n : ℕ) (p : ℕ → Bool) → ((i : ℕ) → i < n → T (p i)) → T (all_below n p)
unfolding all_below
at-all_below zero p f = tt
at-all_below (suc n) p f = both_true (p zero) (all_below n (λ i. p (suc i))) (f zero (zero-lt-suc _)) (at-all_below n (λ i. p (suc i)) (λ i h. f (suc i) (suc-le-suc h)))

pub any_below-at : (n : ℕ) (p : ℕ → Bool) → T (any_below n p) → (i : ℕ) × (i < n) × T (p i)
unfolding any_below
any_below-at zero p t = absurd t
any_below-at (suc n) p t = go (either-cases (p zero) (any_below n (λ i. p (suc i))) t) (any_below-at n (λ i. p (suc i)))
  where
    go : T (p zero) ⊎ T (any_below n (λ i. p (suc i))) → (T (any_below n (λ i. p (suc i))) → (i : ℕ) × (i < n) × T (p (suc i))) → (i : ℕ) × (i < suc n) × T (p i)
    go (inl h) r = (zero, zero-lt-suc _, h)
    go (inr h) r = (suc (r h).0, suc-le-suc (r h).1, (r h).2)

pub at-any_below : (n : ℕ) (p : ℕ → Bool) (i : ℕ) → i < n → T (p i) → T (any_below n p)
unfolding any_below
at-any_below zero p i h t = absurd (not-suc-le-zero h)
at-any_below (suc n) p zero h t = either_left (p zero) (any_below n (λ i. p (suc i))) t
at-any_below (suc n) p (suc i) h t = either-right (p zero) (any_below n (λ i. p (suc i))) (at-any_below n (λ i. p (suc i)) i (le_of_suc-le-suc h) t)

-- ---- where one test holds, another does

pub unless-at : (b c : Bool) → T (not b || c) → T b → T c
unless-at true c t s = t
unless-at false c t s = absurd s

pub at-unless : (b c : Bool) → (T b → T c) → T (not b || c)
at-unless true c f = f tt
at-unless false c f = tt

-- ---- a test as a number, 1 or 0

-- it is 1 where the test holds, and at most 1
pub cond-test : (b : Bool) → eqb (cond b 1 0) 1 ≡ b
cond-test true = refl
cond-test false = refl

pub cond-le : (b : Bool) → cond b 1 0 ≤ 1
cond-le true = omega arith
cond-le false = omega arith

-- a number that is at most 1 is such a one
pub is-cond : (x : ℕ) → x ≤ 1 → x ≡ cond (eqb x 1) 1 0
is-cond zero h = refl
is-cond (suc zero) h = refl
is-cond (suc (suc x)) h = absurd (omega arith)

-- and is at most another number that is 1 where it is
pub cond-mono : (x y : ℕ) → x ≤ 1 → (T (eqb x 1) → T (eqb y 1)) → x ≤ y
cond-mono zero y h f = zero-le
cond-mono (suc zero) y h f = omega (arith, eqb→eq y 1 (f tt))
cond-mono (suc (suc x)) y h f = absurd (omega arith)

-- ---- two numbers

pub lt-or-le : (a b : ℕ) → (a < b) ⊎ (b ≤ a)
lt-or-le a b = go (ltb a b) refl
  where
    go : (t : Bool) → ltb a b ≡ t → (a < b) ⊎ (b ≤ a)
    go true e = inl (ltb-true a b e)
    go false e = inr (ltb-false a b e)

pub eq-or-not : (v w : ℕ) → (v ≡ w) ⊎ (v ≡ w → ⊥)
eq-or-not v w = go (eqb v w) refl
  where
    go : (b : Bool) → eqb v w ≡ b → (v ≡ w) ⊎ (v ≡ w → ⊥)
    go true e = inl (eqb-true v w e)
    go false e = inr (eqb-false v w e)

pub eqb-sym : (a b : ℕ) → eqb a b ≡ eqb b a
eqb-sym a b = same_test (λ t. true-T (eq-eqb b a (sym (eqb→eq a b t)))) (λ t. true-T (eq-eqb a b (sym (eqb→eq b a t))))

-- ---- a choice, turned round

-- choosing by the opposite of a test
pub cond-not : (b : Bool) (x : ℕ) → cond (not b) x 0 ≡ cond b 0 x
cond-not true x = refl
cond-not false x = refl
