-- Rows of numbers: their sum and their largest entry, and sequences of rows (or of anything) that come to rest. Assumes nothing.
use Rattle.std.specs.Prelude.{◌≡◌, ◌⊎◌, ◌∷◌, ◌≤◌, ◌<◌, ◌+◌, ◌++◌}
use Rattle.base_lists.specs.Kit.{◌∙◌, sym, ap, refl, subst, ⊎_elim, inl, inr, List, [], ℕ, suc, zero, zero-le, suc-le-suc, max, not-suc-le-zero, le_of_suc-le-suc, zero-lt-suc, eq-or-lt_of_le, le_antisymm, suc_inj, le-max_left, length, get_or, arith, zero-add, add_assoc, add-zero, take, take-suc, drop, take-append-drop}
use Rattle.base_lists.specs.List.{tabulate, sum, maximum}
use Rattle.base_lists.proofs.Tables.{length-tabulate, get_d_tabulate}

-- ---- sequences that come to rest

-- In the sequence x, where a term repeats the one before it, the next one does so too.
module _ {A : Type 0} (x : ℕ → A) (stops : (k : ℕ) → x (suc k) ≡ x k → x (suc (suc k)) ≡ x (suc k)) where
  -- after one repeated term every later step repeats
  still : (k : ℕ) → x (suc k) ≡ x k → (r : ℕ) → k ≤ r → x (suc r) ≡ x r
  still k e zero h = subst (λ i. x (suc i) ≡ x i) (le_antisymm h zero-le) e
  still k e (suc r) h = ⊎_elim (λ d. subst (λ i. x (suc i) ≡ x i) d e) (λ l. stops r (still k e r (le_of_suc-le-suc l))) (eq-or-lt_of_le h)

  -- after one repeated term the sequence rests
  pub rests : (k : ℕ) → x (suc k) ≡ x k → (r : ℕ) → k ≤ r → x r ≡ x k
  rests k e zero h = ap x (sym (le_antisymm h zero-le))
  rests k e (suc r) h = ⊎_elim (λ d. ap x (sym d)) (λ l. still k e r (le_of_suc-le-suc l) ∙ rests k e r (le_of_suc-le-suc l)) (eq-or-lt_of_le h)

  -- The counting argument: where each step makes progress or repeats, at every k progress has lasted or the sequence rests from k on.
  pub progress-or-rest : (P : ℕ → Type 0) → P zero → ((k : ℕ) → P k → P (suc k) ⊎ (x (suc k) ≡ x k)) → (k : ℕ) → P k ⊎ ((r : ℕ) → k ≤ r → x r ≡ x k)
  progress-or-rest P p step zero = inl p
  progress-or-rest P p step (suc k) = ⊎_elim (λ q. ⊎_elim inl (λ e. inr (onward e)) (step k q)) (λ rest. inr (onward (rest (suc k) (omega arith)))) (progress-or-rest P p step k)
    where
      onward : x (suc k) ≡ x k → (r : ℕ) → suc k ≤ r → x r ≡ x (suc k)
      onward e r h = rests k e r (omega arith) ∙ sym e

  -- A count that grows with each step, or the step repeats: after k steps it has grown by k, or the sequence rests from k on.
  pub rising : (count : A → ℕ) → ((k : ℕ) → (count (x k) < count (x (suc k))) ⊎ (x (suc k) ≡ x k)) → (k : ℕ) → (count (x zero) + k ≤ count (x k)) ⊎ ((r : ℕ) → k ≤ r → x r ≡ x k)
  rising count step = progress-or-rest (λ k. count (x zero) + k ≤ count (x k)) (omega arith) (λ k p. ⊎_elim (λ l. inl (omega arith)) inr (step k))

  -- The same for a count that falls.
  pub falling : (count : A → ℕ) → ((k : ℕ) → (count (x (suc k)) < count (x k)) ⊎ (x (suc k) ≡ x k)) → (k : ℕ) → (count (x k) + k ≤ count (x zero)) ⊎ ((r : ℕ) → k ≤ r → x r ≡ x k)
  falling count step = progress-or-rest (λ k. count (x k) + k ≤ count (x zero)) (omega arith) (λ k p. ⊎_elim (λ l. inl (omega arith)) inr (step k))

  -- A growing count that stays at most n: the sequence rests from m on, where m steps of growth would reach n.
  pub rises-to-rest : (count : A → ℕ) → ((k : ℕ) → (count (x k) < count (x (suc k))) ⊎ (x (suc k) ≡ x k)) → (n : ℕ) → ((k : ℕ) → count (x k) ≤ n)
      → (m : ℕ) → n ≤ count (x zero) + m → (r : ℕ) → m ≤ r → x r ≡ x m
  rises-to-rest count step n bound m h = ⊎_elim (λ p. ⊎_elim (λ l. absurd (omega (arith, bound (suc m)))) (rests m) (step m)) (λ rest. rest) (rising count step m)

  -- A falling count: the sequence rests from m on, where m steps of falling would reach 0.
  pub falls-to-rest : (count : A → ℕ) → ((k : ℕ) → (count (x (suc k)) < count (x k)) ⊎ (x (suc k) ≡ x k)) → (m : ℕ) → count (x zero) ≤ m → (r : ℕ) → m ≤ r → x r ≡ x m
  falls-to-rest count step m h = ⊎_elim (λ p. ⊎_elim (λ l. absurd (omega arith)) (rests m) (step m)) (λ rest. rest) (falling count step m)

-- ---- sums

-- an entry is at most the sum
pub get_or-le-sum : (xs : List ℕ) (i : ℕ) → get_or xs i 0 ≤ sum xs
unfolding sum
get_or-le-sum [] i = zero-le
get_or-le-sum (x ∷ xs) zero = omega arith
get_or-le-sum (x ∷ xs) (suc i) = omega (arith, get_or-le-sum xs i)

-- a row of bits has at most its length for a sum
pub sum-bits : (xs : List ℕ) → ((i : ℕ) → i < length xs → get_or xs i 0 ≤ 1) → sum xs ≤ length xs
unfolding sum
sum-bits [] h = zero-le
sum-bits (x ∷ xs) h = omega (arith, h zero (zero-lt-suc _), sum-bits xs (λ i l. h (suc i) (suc-le-suc l)))

-- Entry by entry at most: the sum is less, or nothing is.
pub sum-progress : (xs ys : List ℕ) → length xs ≡ length ys → ((i : ℕ) → i < length xs → get_or xs i 0 ≤ get_or ys i 0) → (sum xs < sum ys) ⊎ (ys ≡ xs)
unfolding sum
sum-progress [] [] l h = inr refl
sum-progress [] (y ∷ ys) l h = absurd (omega arith)
sum-progress (x ∷ xs) [] l h = absurd (omega arith)
sum-progress (x ∷ xs) (y ∷ ys) l h = go (eq-or-lt_of_le (h zero (zero-lt-suc _))) (sum-progress xs ys (suc_inj l) (λ i b. h (suc i) (suc-le-suc b)))
  where
    go : (x ≡ y) ⊎ (x < y) → (sum xs < sum ys) ⊎ (ys ≡ xs) → (x + sum xs < y + sum ys) ⊎ (y ∷ ys ≡ x ∷ xs)
    go (inl e) (inl s) = inl (omega arith)
    go (inl e) (inr s) = inr (cc)
    go (inr e) (inl s) = inl (omega arith)
    go (inr e) (inr s) = inl (omega (arith, ap sum s))

-- ---- the largest entry

-- an entry is at most the largest
pub get_or-le-maximum : (xs : List ℕ) (i : ℕ) → get_or xs i 0 ≤ maximum xs
unfolding maximum
get_or-le-maximum [] i = zero-le
get_or-le-maximum (x ∷ xs) zero = omega arith
get_or-le-maximum (x ∷ xs) (suc i) = omega (arith, get_or-le-maximum xs i)

-- ---- which entry is the largest

-- some entry of a row that is not empty is the largest
pub maximum-attained : (xs : List ℕ) → zero < length xs → (i : ℕ) × (i < length xs) × (get_or xs i 0 ≡ maximum xs)
unfolding maximum
maximum-attained [] h = absurd (not-suc-le-zero h)
maximum-attained (x ∷ []) h = (zero, h, omega arith)
maximum-attained (x ∷ y ∷ ys) h = go (eq-or-lt_of_le (le-max_left x (maximum (y ∷ ys)))) (maximum-attained (y ∷ ys) (zero-lt-suc _))
  where
    go : (x ≡ max x (maximum (y ∷ ys))) ⊎ (x < max x (maximum (y ∷ ys))) → (i : ℕ) × (i < length (y ∷ ys)) × (get_or (y ∷ ys) i 0 ≡ maximum (y ∷ ys))
        → (i : ℕ) × (i < length (x ∷ y ∷ ys)) × (get_or (x ∷ y ∷ ys) i 0 ≡ max x (maximum (y ∷ ys)))
    go (inl e) r = (zero, zero-lt-suc _, e)
    go (inr l) r = (suc r.0, suc-le-suc r.1, omega (arith, r.2))

-- the same of a row made from a rule
pub rule-le-maximum : (n : ℕ) (f : ℕ → ℕ) (i : ℕ) → i < n → f i ≤ maximum (tabulate n f)
rule-le-maximum n f i h = subst (λ x. x ≤ maximum (tabulate n f)) (get_d_tabulate n f i 0 h) (get_or-le-maximum (tabulate n f) i)

pub rule-maximum-attained : (n : ℕ) (f : ℕ → ℕ) → zero < n → (i : ℕ) × (i < n) × (f i ≡ maximum (tabulate n f))
rule-maximum-attained n f h =
    let (i, b, e) = maximum-attained (tabulate n f) (subst (λ x. zero < x) (sym (length-tabulate n f)) h) in
    let c : i < n = subst (λ x. i < x) (length-tabulate n f) b in
    (i, c, sym (get_d_tabulate n f i 0 c) ∙ e)

-- ---- sums of lists one after another

pub sum-append : (xs ys : List ℕ) → sum (xs ++ ys) ≡ sum xs + sum ys
unfolding sum
sum-append [] ys = sym (zero-add (sum ys))
sum-append (x ∷ xs) ys = ap (λ (t : ℕ). x + t) (sum-append xs ys) ∙ sym (add_assoc x (sum xs) (sum ys))

pub sum-take-suc : (xs : List ℕ) (i : ℕ) → i < length xs → sum (take (suc i) xs) ≡ sum (take i xs) + get_or xs i 0
unfolding sum
sum-take-suc xs i h = ap sum (take-suc xs i 0 h) ∙ sum-append (take i xs) (get_or xs i 0 ∷ []) ∙ ap (λ (t : ℕ). sum (take i xs) + t) (add-zero (get_or xs i 0))

pub sum-take-le : (xs : List ℕ) (i : ℕ) → sum (take i xs) ≤ sum xs
sum-take-le xs i = omega (arith, sum-append (take i xs) (drop i xs), ap sum (take-append-drop i xs))

pub sum-last : (xs : List ℕ) (x : ℕ) → sum (xs ++ (x ∷ [])) ≡ sum xs + x
unfolding sum
sum-last [] x = omega arith
sum-last (y ∷ ys) x = omega (arith, sum-last ys x)
