-- What a list has among its entries, and lists whose entries are below a bound. Assumes nothing.
use Rattle.std.specs.Prelude.{◌≡◌, ◌∷◌, ◌↔◌, ◌≤◌, ◌+◌, ◌++◌, ◌<◌}
use Rattle.base_lists.specs.Kit.{[], ℕ, suc, zero, not-suc-le-zero, le_of_suc-le-suc, refl, zero-lt-suc, subst, Bool, List, T, sym, ltb, lt-ltb, lt_of_lt_of_le, drop, length-drop, get_or-drop, arith, suc-le-suc, length, get_or, get_or-eq_default, replicate, length-replicate, get_or-replicate, ltb→lt, lt→ltb}
use Rattle.base_lists.specs.List.{Occurs, all, any, Below}
use Rattle.base_lists.proofs.Tests.{all-at, at_all, any_at, at-any, true-T}
use native.Mathlib.Decide.{dec_lt}

-- ---- what occurs

-- a list of one has that one
pub occurs-one : (v w : ℕ) → Occurs (v ∷ []) w → v ≡ w
occurs-one v w (zero, h, e) = e
occurs-one v w (suc i, h, e) = absurd (not-suc-le-zero (le_of_suc-le-suc h))

pub one-occurs : (v : ℕ) → Occurs (v ∷ []) v
one-occurs v = (zero, zero-lt-suc _, refl)

-- tests of all entries, and of some
pub all-occurs : (test : ℕ → Bool) (xs : List ℕ) → T (all test xs) ↔ ((x : ℕ) → Occurs xs x → T (test x))
all-occurs test xs = (
  λ t x (i, h, e). subst (λ y. T (test y)) e (all-at test xs t i h),
  λ f. at_all test xs (λ i h. f _ (i, h, refl)),
)

pub any-occurs : (test : ℕ → Bool) (xs : List ℕ) → T (any test xs) ↔ ((x : ℕ) × Occurs xs x × T (test x))
any-occurs test xs = (
  λ t. let (i, h, s) = any_at test xs t in (_, (i, h, refl), s),
  λ (x, (i, h, e), s). at-any test xs i h (subst (λ y. T (test y)) (sym e) s),
)

-- ---- entries below a bound

-- as a test
pub all-below : (n : ℕ) (xs : List ℕ) → T (all (λ v. ltb v n) xs) → Below n xs
unfolding Below
all-below n xs t i h = ltb→lt (get_or xs i 0) n (all-at (λ v. ltb v n) xs t i h)

pub below_all : (n : ℕ) (xs : List ℕ) → Below n xs → T (all (λ v. ltb v n) xs)
unfolding Below
below_all n xs b = at_all (λ v. ltb v n) xs (λ i h. true-T (lt-ltb _ _ (b i h)))

-- below a bound is below every larger one
pub below_wider : (m n : ℕ) (xs : List ℕ) → m ≤ n → Below m xs → Below n xs
unfolding Below
below_wider m n xs h b i l = lt_of_lt_of_le (b i l) h

-- where a list's entries are below n, so are those past its first a
pub below-drop : (n : ℕ) (xs : List ℕ) (a : ℕ) → Below n xs → Below n (drop a xs)
unfolding Below
below-drop n xs a b i h =
    let l = simp length-drop at h in
    rw (get_or-drop a xs i 0) (b (a + i) (omega arith))

-- a list after another
pub below-append : (n : ℕ) (xs ys : List ℕ) → Below n xs → Below n ys → Below n (xs ++ ys)
unfolding Below
below-append n [] ys a b i h = b i h
below-append n (x ∷ xs) ys a b zero h = a zero (zero-lt-suc _)
below-append n (x ∷ xs) ys a b (suc i) h = below-append n xs ys (λ j k. a (suc j) (suc-le-suc k)) b i (le_of_suc-le-suc h)

-- a list of one
pub below_one : (n v : ℕ) → v < n → Below n (v ∷ [])
unfolding Below
below_one n v h zero l = h
below_one n v h (suc i) l = absurd (not-suc-le-zero (le_of_suc-le-suc l))

-- an entry, and 0 past the last
pub below-get_or : (n : ℕ) (xs : List ℕ) → 0 < n → Below n xs → (i : ℕ) → get_or xs i 0 < n
unfolding Below
below-get_or n xs some b i = go (dec_lt i (length xs))
  where
    go : Dec (i < length xs) → get_or xs i 0 < n
    go (yes h) = b i h
    go (no h) = rw (get_or-eq_default xs 0 {n = i} (omega arith)) some

-- a table of zeros
pub below-zeros : (n : ℕ) → Below 1 (replicate n 0)
unfolding Below
below-zeros n i h = rw (get_or-replicate {A = ℕ} n i 0 0 (subst (λ (k : ℕ). i < k) (length-replicate {A = ℕ} n 0) h)) (omega arith)

-- ---- an entry, whatever the default

pub get_d_any : (xs : List ℕ) (i a b : ℕ) → i < length xs → get_or xs i a ≡ get_or xs i b
get_d_any [] i a b h = absurd (not-suc-le-zero h)
get_d_any (x ∷ xs) zero a b h = refl
get_d_any (x ∷ xs) (suc i) a b h = get_d_any xs i a b (le_of_suc-le-suc h)

-- ---- tests below a bound

-- where every entry is below n, the i-th is
pub all-below-at : (n : ℕ) (keys : List ℕ) (i : ℕ) → T (all (λ k. ltb k n) keys) → i < length keys → get_or keys i 0 < n
all-below-at n keys i t h = ltb→lt (get_or keys i 0) n (all-at (λ k. ltb k n) keys t i h)

-- a wider bound
pub all-below-wider : (m n : ℕ) (keys : List ℕ) → m ≤ n → T (all (λ k. ltb k m) keys) → T (all (λ k. ltb k n) keys)
all-below-wider m n keys h t = at_all (λ k. ltb k n) keys (λ i l. lt→ltb (get_or keys i 0) n (omega (arith, all-below-at m keys i t l)))
