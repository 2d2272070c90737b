-- How many digits of a number are set. Assumes nothing.
use Rattle.std.specs.Prelude.{◌≡◌, ◌<◌, ◌+◌, ◌^◌, ◌/◌, ◌≤◌}
use Rattle.base_lists.specs.Kit.{◌∙◌, sym, ap, ap₂, ℕ, suc, zero, false, refl, Bool, true, ltb, arith, ltb-false, ltb-true}
use lib.Arith.{lt-one}
use lib.Count.{ones, ones_step}
use Rattle.base_lists.specs.Below.{count_below}
use Rattle.base_lists.proofs.Below.{count_below-same, count_below-le, count_below-mono, count_below-equal}
use Rattle.base_bits.specs.Bits.{bit, size_of, Subset}
use Rattle.base_bits.proofs.Digits.{bit_high, low_digit, half_lt, bit-of-zero, same-bits-below}

pub ones-count : (k x : ℕ) → x < 2 ^ k → ones x ≡ count_below k (bit x)
unfolding ones count_below
ones-count zero x h = ap ones (lt-one h)
ones-count (suc k) x h =
    ones_step x
    ∙ ap₂ (λ (a b : ℕ). a + b) (low_digit x)
    (ones-count k (x / 2) (half_lt k h) ∙ count_below-same k (bit (x / 2)) (λ u. bit x (suc u)) (λ u l. sym (bit_high x u)))

-- ---- how many parts a set has

pub size_none : size_of zero ≡ zero
unfolding size_of count_below
size_none = count_below-same 32 (bit zero) (λ u. false) (λ u h. bit-of-zero u)

pub size-le : (x : ℕ) → size_of x ≤ 32
unfolding size_of
size-le x = count_below-le 32 (bit x)

-- a set inside another has fewer parts, or is equal to it
pub size_less : (y x : ℕ) → y < 2 ^ 32 → x < 2 ^ 32 → Subset y x → (y ≡ x → ⊥) → size_of y < size_of x
unfolding size_of
size_less y x h l s other = go (ltb (count_below 32 (bit y)) (count_below 32 (bit x))) refl
  where
    go : (b : Bool) → ltb (count_below 32 (bit y)) (count_below 32 (bit x)) ≡ b → count_below 32 (bit y) < count_below 32 (bit x)
    go true e = ltb-true _ _ e
    go false e =
        let less = count_below-mono 32 (bit y) (bit x) (λ u k. s u) in
        let more = ltb-false (count_below 32 (bit y)) (count_below 32 (bit x)) e in
        absurd (other (same-bits-below 32 y x h l (count_below-equal 32 (bit y) (bit x) (λ u k. s u) (omega arith))))
