-- Laws of the tests on links, for the loops that go through them. Assumes nothing.
use Rattle.std.specs.Prelude.{◌≡◌, ◌⊎◌, ◌≤◌, ◌<◌, ◌+◌, ◌-◌}
use Rattle.base_lists.specs.Kit.{◌∙◌, sym, ap, refl, inl, inr, Bool, false, true, List, ℕ, eq-or-lt_of_le, ltb, ltb→lt, lt→ltb, length, get_or, arith, ltb-false, ltb-true}
use Rattle.std.specs.List.{All, Contains}
use Rattle.std.proofs.lemmas.List.{get_or_default}
use Rattle.base_lists.specs.List.{all}
use Rattle.base_lists.proofs.Tests.{all-at, at_all, all_below-at, at-all_below, T_true, T_false}
use Rattle.file_format.specs.Links.{packed, numbers_rise}

-- ---- each number below n

module _ (xs : List ℕ) (n : ℕ) where
  pub all-below : ((i : ℕ) → i < length xs → get_or xs i 0 < n) → all (λ v. ltb v n) xs ≡ true
  all-below f = T_true (at_all (λ v. ltb v n) xs (λ i h. lt→ltb _ _ (f i h)))

  pub not_all_below : (i : ℕ) → i < length xs → n ≤ get_or xs i 0 → all (λ v. ltb v n) xs ≡ false
  not_all_below i h le = T_false (λ t. omega (arith, ltb→lt (get_or xs i 0) n (all-at (λ v. ltb v n) xs t i h)))

  -- the greatest tells
  pub all-below_greatest : (most : ℕ) → Contains xs most → All (λ v. v ≤ most) xs → ltb most n ≡ all (λ v. ltb v n) xs
  all-below_greatest most at le = go (ltb most n) refl
    where
      go : (b : Bool) → ltb most n ≡ b → b ≡ all (λ v. ltb v n) xs
      go true e = sym (all-below (λ i h. omega (arith, le i 0 h, ltb-true most n e)))
      go false e =
          sym (not_all_below at.0 at.1 (omega (arith, get_or_default xs at.0 0 most at.1, at.2, ltb-false most n e)))

-- ---- each link's number below the next one's

-- the number of the i-th link
unfoldable pub number_at : List ℕ → List ℕ → ℕ → ℕ
number_at starts ends i = packed (get_or starts i 0) (get_or ends i 0)

-- Of the first i links each number is below the next one's, and `last` is the latest.
pub record Rose (starts ends : List ℕ) (last i : ℕ) : Type 0 where
  pub some : 0 < i
  pub within : i ≤ length starts
  pub latest : (k : ℕ) → k + 1 ≡ i → last ≡ number_at starts ends k
  pub rose : (j : ℕ) → j + 1 < i → number_at starts ends j < number_at starts ends (j + 1)

module _ (starts ends : List ℕ) where
  all-rise : ((i : ℕ) → i + 1 < length starts → number_at starts ends i < number_at starts ends (i + 1)) → numbers_rise starts ends ≡ true
  unfolding numbers_rise number_at
  all-rise f = T_true (at-all_below (length starts - 1) _ (λ i h. lt→ltb _ _ (f i (omega arith))))

  one-falls : (i : ℕ) → i + 1 < length starts → number_at starts ends (i + 1) ≤ number_at starts ends i → numbers_rise starts ends ≡ false
  unfolding numbers_rise number_at
  one-falls i h l =
      T_false
      (λ t.
      omega (arith, ltb→lt (packed (get_or starts i 0) (get_or ends i 0)) (packed (get_or starts (i + 1) 0) (get_or ends (i + 1) 0)) (all_below-at (length starts - 1) _ t i (omega arith))))

  pub no-links : length starts ≡ 0 → numbers_rise starts ends ≡ true
  no-links e = all-rise (λ i h. absurd (omega arith))

  pub rose-first : {last : ℕ} → (length starts ≡ 0 → ⊥) → last ≡ packed (get_or starts 0 0) (get_or ends 0 0) → Rose starts ends last 1
  unfolding number_at
  rose-first f e =
      record {
        some = omega arith;
        within = omega arith;
        latest = λ k q. e ∙ ap (λ (x : ℕ). packed (get_or starts x 0) (get_or ends x 0)) (omega arith);
        rose = λ j h. absurd (omega arith);
      }

  module _ {last i : ℕ} (r : Rose starts ends last i) where
    module _ {next : ℕ} (h : i < length starts) (e : next ≡ packed (get_or starts i 0) (get_or ends i 0)) where
      -- the next number is below it, or the same
      pub rose-not : next ≤ last → numbers_rise starts ends ≡ false
      unfolding number_at
      rose-not l =
          let k : i - 1 + 1 ≡ i = let s = r.some in omega arith in
          one-falls (i - 1) (rw k h) (rw k (omega (arith, r.latest (i - 1) k)))

      -- or above it
      pub rose-more : last < next → Rose starts ends next (i + 1)
      unfolding number_at
      rose-more l =
          record {
            some = omega arith;
            within = omega arith;
            latest = λ k q. e ∙ ap (λ (x : ℕ). packed (get_or starts x 0) (get_or ends x 0)) (omega arith);
            rose = λ j g. go j (eq-or-lt_of_le (omega arith));
          }
        where
          go : (j : ℕ) → (j + 1 ≡ i) ⊎ (j + 1 < i) → number_at starts ends j < number_at starts ends (j + 1)
          go j (inl q) = rw q (omega (arith, r.latest j q))
          go j (inr m) = r.rose j m

    -- all were passed
    pub rose-all : length starts ≤ i → numbers_rise starts ends ≡ true
    rose-all h = all-rise (λ j g. r.rose j (omega arith))
