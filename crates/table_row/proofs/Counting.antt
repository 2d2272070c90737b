-- The row comes to rest at its last set, and the four counts say how. Assumes nothing.
use Rattle.std.specs.Prelude.{◌≡◌, ◌⊎◌, ◌≢◌, ◌∷◌, ◌≤◌, ◌<◌, ◌+◌}
use Rattle.base_lists.specs.Kit.{◌∙◌, sym, ap, refl, subst, ap₂, Bool, false, not, List, [], map, ℕ, suc, le_refl, T, eqb, eqb→eq, eqb_refl, not_T, arith}
use lib.Count.{ones}
use Rattle.base_lists.specs.List.{sum}
use Rattle.base_lists.specs.Below.{count_below}
use Rattle.base_lists.proofs.Tests.{both_true, both_left, both_right, T_true}
use Rattle.base_lists.proofs.Rows.{rests, falls-to-rest}
use Rattle.base_lists.proofs.Below.{count_below-first}
use Rattle.table_row.specs.Problem.{Problem}
use Rattle.table_row.specs.Row.{pairs, same, start_of, strike_of, row_from, row_of, started_of, last_of, kept_of, rounds_of}
use Rattle.table_row.specs.Reading.{TableOf}
use Rattle.table_row.proofs.Sets.{fits_word, pairs-progress, pairs-ones}
use Rattle.table_row.proofs.Row.{start_fits, strike-fits, strike-inside, from-fits, row_fits}
use Rattle.table_row.proofs.Falling.{FirstRest, falls-count, first_rest}

-- ---- the test whether two tables are the same

pub same-equal : (xs ys : List ℕ) → T (same xs ys) → xs ≡ ys
unfolding same
same-equal [] [] t = refl
same-equal [] (y ∷ ys) t = absurd t
same-equal (x ∷ xs) [] t = absurd t
same-equal (x ∷ xs) (y ∷ ys) t =
    ap₂ (λ (a : ℕ) (b : List ℕ). a ∷ b) (eqb→eq x y (both_left (eqb x y) (same xs ys) t)) (same-equal xs ys (both_right (eqb x y) (same xs ys) t))

same_self : (xs : List ℕ) → T (same xs xs)
unfolding same
same_self [] = tt
same_self (x ∷ xs) = both_true (eqb x x) (same xs xs) (eqb_refl x) (same_self xs)

pub equal-same : (xs ys : List ℕ) → xs ≡ ys → T (same xs ys)
equal-same xs ys e = subst (λ zs. T (same xs zs)) e (same_self xs)

-- the set after the k-th differs from it
abbrev pub rows-differ : {D : Type 0} → Problem D → ℕ → Bool
rows-differ p k = not (same (row_of p (suc k)) (row_of p k))

-- ---- coming to rest

-- Where a table repeats the one before, so do all later ones.
pub from-rests :
    {D : Type 0} (p : Problem D) (t : List ℕ) (k : ℕ) → row_from p t (suc k) ≡ row_from p t k → (r : ℕ) → k ≤ r →
    row_from p t r ≡ row_from p t k
unfolding row_from
from-rests p t = rests (row_from p t) (λ k e. ap (strike_of p) e)

-- From here on there are at most 32 parts.
module _ {D : Type 0} (p : Problem D) (most : p.parts ≤ 32) where
  -- Striking leaves fewer pairs, or the same table.
  pub strike-progress : {t : List ℕ} → TableOf p t → (pairs (strike_of p t) < pairs t) ⊎ (strike_of p t ≡ t)
  strike-progress {t} f = pairs-progress most (strike-fits p t) f (strike-inside p f)

  module _ {t : List ℕ} (f : TableOf p t) where
    pub from-progress : (k : ℕ) → (pairs (row_from p t (suc k)) < pairs (row_from p t k)) ⊎ (row_from p t (suc k) ≡ row_from p t k)
    unfolding row_from
    from-progress k = strike-progress (from-fits p f k)

    -- the row rests from as many steps on as it begins with pairs
    pub from_last : (m k : ℕ) → pairs t ≤ m → m ≤ k → row_from p t k ≡ row_from p t m
    unfolding row_from
    from_last m k h l = falls-to-rest (row_from p t) (λ i e. ap (strike_of p) e) pairs from-progress m h k l

  pub row-progress : (k : ℕ) → (pairs (row_of p (suc k)) < pairs (row_of p k)) ⊎ (row_of p (suc k) ≡ row_of p k)
  unfolding row_of
  row-progress = from-progress (start_fits p)

  -- The row rests from `started` on: the last set is the last,
  pub row_last : (k : ℕ) → started_of p ≤ k → row_of p k ≡ last_of p
  unfolding row_of started_of last_of
  row_last k h = from_last (start_fits p) (started_of p) k (le_refl _) h

  -- and striking leaves it as it is.
  pub last-rests : strike_of p (last_of p) ≡ last_of p
  unfolding row_of row_from last_of
  last-rests = row_last (suc (started_of p)) (omega arith)

-- ---- the first set that is repeated: where a loop stops that strikes until the number of pairs stays

module _ {D : Type 0} (p : Problem D) {k : ℕ} (first : FirstRest pairs (row_of p) k) where
  -- it is reached within as many steps as there were pairs
  first_count : pairs (row_of p k) + k ≤ started_of p
  unfolding row_of row_from started_of
  first_count = falls-count pairs (row_of p) k first.falls

  repeats : (r : ℕ) → k ≤ r → row_of p r ≡ row_of p k
  unfolding row_of
  repeats = from-rests p (start_of p) k first.repeats

  -- there stands the last set
  pub first-last : last_of p ≡ row_of p k
  unfolding last_of
  first-last = repeats (started_of p) (omega (arith, first_count))

  -- the steps before it change the set, and the others do not
  first-changes : (j : ℕ) → j < k → T (rows-differ p j)
  first-changes j l = not_T (same _ _) (λ t. absurd (omega (arith, first.falls j l, ap pairs (same-equal _ _ t))))

  first-keeps : (j : ℕ) → k ≤ j → rows-differ p j ≡ false
  first-keeps j l = ap not (T_true {b = same _ _} (equal-same _ _ (repeats (suc j) (omega arith) ∙ sym (repeats j l))))

  first-differing : (n : ℕ) → k ≤ n → count_below n (rows-differ p) ≡ k
  first-differing n h = count_below-first n k (rows-differ p) h first-changes first-keeps

  -- and the number of steps to it is `rounds`
  pub first-rounds : rounds_of p ≡ k
  unfolding rounds_of
  first-rounds = first-differing (started_of p) (omega (arith, first_count))

-- ---- the four counts

module _ {D : Type 0} (p : Problem D) (most : p.parts ≤ 32) where
  -- `rounds` is the first k at which the row repeats a set
  pub rounds-first : FirstRest pairs (row_of p) (rounds_of p)
  rounds-first = let (k, r) = first_rest pairs (row_of p) (row-progress p most) in rw (first-rounds p r) r

  -- each set up to there differs from the one before, and there the row has come to its last set
  pub rounds-differ : (j : ℕ) → j < rounds_of p → row_of p (suc j) ≢ row_of p j
  rounds-differ j h e = omega (arith, rounds-first.falls j h, ap pairs e)

  pub rounds-last : (k : ℕ) → rounds_of p ≤ k → row_of p k ≡ last_of p
  rounds-last k h = repeats p rounds-first k h ∙ sym (first-last p rounds-first)

  -- each round strikes a pair
  pub kept-rounds : kept_of p + rounds_of p ≤ started_of p
  unfolding kept_of
  kept-rounds = omega (arith, first_count p rounds-first, ap pairs (first-last p rounds-first))

  -- "So started = kept + struck, and rounds are at most struck."
  pub kept-started : kept_of p ≤ started_of p
  kept-started = omega (arith, kept-rounds)

  -- "kept is the number of one bits in the whole table"
  pub kept_of-ones : kept_of p ≡ sum (map ones (last_of p))
  unfolding kept_of last_of
  kept_of-ones = pairs-ones (last_of p) (fits_word most (row_fits p (started_of p)))

  -- "started, the pairs of R0": so counted too
  pub started-ones : started_of p ≡ sum (map ones (start_of p))
  unfolding started_of
  started-ones = pairs-ones (start_of p) (fits_word most (start_fits p))
