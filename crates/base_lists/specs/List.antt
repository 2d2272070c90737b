-- Tests over lists and below a bound, and lists made from a rule: the few list functions that definitions of every layer use.
use Rattle.std.specs.Prelude.{◌≡◌, ◌&&◌, ◌||◌, ◌∷◌, ◌<◌, ◌+◌}
use Rattle.base_lists.specs.Kit.{Bool, false, true, List, [], ℕ, suc, zero, max, length, get_or, take, drop}

-- every element passes the test
unfoldable pub all : (ℕ → Bool) → List ℕ → Bool
all p [] = true
all p (x ∷ xs) = p x && all p xs

-- some element passes the test
unfoldable pub any : (ℕ → Bool) → List ℕ → Bool
any p [] = false
any p (x ∷ xs) = p x || any p xs

-- every number below n passes the test
unfoldable pub all_below : ℕ → (ℕ → Bool) → Bool
all_below zero p = true
all_below (suc n) p = p zero && all_below n (λ i. p (suc i))

-- some number below n passes the test
unfoldable pub any_below : ℕ → (ℕ → Bool) → Bool
any_below zero p = false
any_below (suc n) p = p zero || any_below n (λ i. p (suc i))

-- the list f 0, f 1, .., f (n - 1)
unfoldable pub tabulate : ℕ → (ℕ → ℕ) → List ℕ
tabulate zero f = []
tabulate (suc n) f = f zero ∷ tabulate n (λ i. f (suc i))

-- x is an entry of the list
abbrev pub Occurs : List ℕ → ℕ → Type 0
Occurs xs x = (i : ℕ) × (i < length xs) × (get_or xs i 0 ≡ x)

-- the sum of a list
unfoldable pub sum : List ℕ → ℕ
sum [] = zero
sum (x ∷ xs) = x + sum xs

-- the largest of a list, 0 where it is empty
unfoldable pub maximum : List ℕ → ℕ
maximum [] = zero
maximum (x ∷ xs) = max x (maximum xs)

-- every entry of a list is below n
unfoldable pub Below : ℕ → List ℕ → Type 0
Below n xs = (i : ℕ) → i < length xs → get_or xs i 0 < n

-- the stretch of a list that has `size` entries from `at` on
unfoldable pub part : ℕ → ℕ → List ℕ → List ℕ
part at size xs = take size (drop at xs)
