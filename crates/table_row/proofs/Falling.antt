-- A sequence whose count falls with each step until the sequence repeats: where it first does. Assumes nothing.
use Rattle.std.specs.Prelude.{◌≡◌, ◌⊎◌, ◌≤◌, ◌<◌, ◌+◌}
use Rattle.base_lists.specs.Kit.{sym, subst, ⊎_elim, inl, inr, ℕ, suc, zero, not-suc-le-zero, le_refl, le_of_suc-le-suc, eq-or-lt_of_le, arith}
use Rattle.table_row.specs.Row.{Falls}

-- k is the first term that the next one repeats.
pub record FirstRest {A : Type 0} (count : A → ℕ) (x : ℕ → A) (k : ℕ) : Type 0 where
  pub falls : Falls count x k
  pub repeats : x (suc k) ≡ x k

module _ {A : Type 0} (count : A → ℕ) (x : ℕ → A) where
  falls-more : (k : ℕ) → Falls count x k → count (x (suc k)) < count (x k) → Falls count x (suc k)
  falls-more k f l j h =
      ⊎_elim (λ e. subst (λ i. count (x (suc i)) < count (x i)) (sym e) l) (f j) (eq-or-lt_of_le (le_of_suc-le-suc h))

  -- each step takes at least one
  pub falls-count : (k : ℕ) → Falls count x k → count (x k) + k ≤ count (x zero)
  falls-count zero f = omega arith
  falls-count (suc k) f = omega (arith, falls-count k (λ j h. f j (omega arith)), f k (le_refl _))

  -- the count has fallen with each step so far, or some term was repeated
  falls-or-rest : ((k : ℕ) → (count (x (suc k)) < count (x k)) ⊎ (x (suc k) ≡ x k)) → (k : ℕ) → Falls count x k ⊎ ((m : ℕ) × FirstRest count x m)
  falls-or-rest step zero = inl (λ j h. absurd (not-suc-le-zero h))
  falls-or-rest step (suc k) =
      ⊎_elim (λ f. ⊎_elim (λ l. inl (falls-more k f l)) (λ e. inr (k, record { falls = f; repeats = e })) (step k)) inr (falls-or-rest step k)

  -- Where each step takes from the count or repeats, some term is the first to be repeated.
  pub first_rest : ((k : ℕ) → (count (x (suc k)) < count (x k)) ⊎ (x (suc k) ≡ x k)) → (k : ℕ) × FirstRest count x k
  first_rest step =
      ⊎_elim (λ f. absurd (omega (arith, falls-count (suc (count (x zero))) f))) (λ r. r) (falls-or-rest step (suc (count (x zero))))
