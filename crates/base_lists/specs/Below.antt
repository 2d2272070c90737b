-- The numbers below a bound that pass a test: how many, which is the least, and their list; and lists one after another.
use Rattle.std.specs.Prelude.{◌∷◌, ◌++◌, ◌+◌}
use Rattle.base_lists.specs.Kit.{Bool, cond, List, [], ℕ, suc, zero}

-- how many numbers below n pass the test
unfoldable pub count_below : ℕ → (ℕ → Bool) → ℕ
count_below zero p = zero
count_below (suc n) p = cond (p zero) 1 0 + count_below n (λ i. p (suc i))

-- the least number below n that passes the test, n where none does
unfoldable pub least_below : ℕ → (ℕ → Bool) → ℕ
least_below zero p = zero
least_below (suc n) p = cond (p zero) zero (suc (least_below n (λ i. p (suc i))))

-- the list of f i over the numbers i below n that pass the test, rising in i
unfoldable pub collect : ℕ → (ℕ → Bool) → (ℕ → ℕ) → List ℕ
collect zero p f = []
collect (suc n) p f =
    let rest = collect n (λ i. p (suc i)) (λ i. f (suc i)) in
    cond (p zero) (f zero ∷ rest) rest

-- the lists g 0, g 1, .., g (n - 1), one after another
unfoldable pub concat_below : ℕ → (ℕ → List ℕ) → List ℕ
concat_below zero g = []
concat_below (suc n) g = concat_below n g ++ g n

-- the entries of a list, the first of which has index i, whose index passes a test
unfoldable pub keep_from : ℕ → (ℕ → Bool) → List ℕ → List ℕ
keep_from i p [] = []
keep_from i p (x ∷ xs) = cond (p i) (x ∷ keep_from (suc i) p xs) (keep_from (suc i) p xs)
