-- The smallest part of a class, looked for among the members of a set, lowest first. Assumes nothing.
use Rattle.std.specs.Prelude.{◌≡◌, ◌&&◌, ◌<◌, ◌^◌}
use Rattle.base_lists.specs.Kit.{◌∙◌, sym, ap, ⊎_elim, Bool, false, and-true, and-false, List, ℕ, zero, eq-or-lt_of_le, T, length, get_or, ne_eqb}
use native.Mathlib.Decide.{ℕ_discrete}
use Rattle.base_lists.specs.Below.{least_below}
use Rattle.base_lists.proofs.Below.{least_below-same, least_below-le, least_below-at, least_below-is}
use Rattle.base_lists.proofs.Tests.{both_true, both_right, false-T}
use Rattle.base_bits.specs.Bits.{bit, first_of, without_first}
use Rattle.base_bits.proofs.Digits.{bit-of-zero}
use Rattle.base_bits.proofs.Members.{first_bit, first-none, bit-without}
use Rattle.merge.specs.Merged.{leader}
use Rattle.merge.proofs.Steps.{leader-bits}

-- the least part of a set whose own set has u
unfoldable pub leader_among : List ℕ → ℕ → ℕ → ℕ
leader_among t u left = least_below (length t) (λ v. bit (get_or t v 0) u && bit left v)

module _ (t : List ℕ) (u : ℕ) where
  -- among the members of u's own set it is the leader of u's class
  pub among-all : leader_among t u (get_or t u 0) ≡ leader (length t) t u
  unfolding leader_among
  among-all = sym (leader-bits (length t) t u)

  -- there is none in the empty set
  pub among_none : leader_among t u zero ≡ length t
  unfolding leader_among
  among_none =
      let among : ℕ → Bool = λ v. bit (get_or t v 0) u && bit zero v in
      ⊎_elim (λ e. e)
      (λ l.
      let v = least_below (length t) among in
      absurd (false-T (bit-of-zero v) (both_right (bit (get_or t v 0) u) (bit zero v) (least_below-at (length t) among l))))
      (eq-or-lt_of_le (least_below-le (length t) among))

  module _ (left : ℕ) (some : zero < left) (word : left < 2 ^ 32) where
    -- the least member of the set, if its own set has u,
    pub among-found : first_of left < length t → T (bit (get_or t (first_of left) 0) u) → leader_among t u left ≡ first_of left
    unfolding leader_among
    among-found h m =
        least_below-is (length t) _ (first_of left) h (both_true (bit (get_or t (first_of left) 0) u) (bit left (first_of left)) m (first_bit left some word))
        (λ i l. ap (λ (b : Bool). bit (get_or t i 0) u && b) (first-none left i l) ∙ and-false (bit (get_or t i 0) u))

    -- and else one of the other members
    pub among_next : bit (get_or t (first_of left) 0) u ≡ false → leader_among t u left ≡ leader_among t u (without_first left)
    unfolding leader_among
    among_next out = least_below-same (length t) _ _ (λ v h. go v (ℕ_discrete v (first_of left)))
      where
        go : (v : ℕ) → Dec (v ≡ first_of left) → (bit (get_or t v 0) u && bit left v) ≡ (bit (get_or t v 0) u && bit (without_first left) v)
        go v (yes q) = rw (q, out)
        go v (no d) = rw (bit-without left some word v, ne_eqb v (first_of left) d, and-true)
