-- The parts of a set that pass a test, taken one after another. Assumes nothing.
use Rattle.std.specs.Prelude.{◌≡◌, ◌&&◌, ◌||◌, ◌<◌, ◌^◌}
use Rattle.base_lists.specs.Kit.{◌∙◌, sym, ap, refl, ap₂, Bool, false, true, cond, not, and-true, or-false, and-false, ℕ, zero, eqb, eqb-true}
use lib.Bits.{bit_or, or_lt}
use lib.Pow.{pow_pos, pow-lt}
use Rattle.base_lists.proofs.Tests.{both_left, T_true}
use Rattle.base_bits.specs.Bits.{bit, number_of, Subset, first_of, without_first}
use Rattle.base_bits.proofs.Digits.{bit-of-zero, bit_below, bit-or, bit-single, same-bits-below}
use Rattle.base_bits.proofs.Numbers.{bit-number, number_lt, number_same, number_bit}
use Rattle.base_bits.proofs.Members.{first-lt, first_bit, bit-without}

module _ (q : ℕ → Bool) where
  abbrev pub passing : ℕ → ℕ
  passing x = number_of 32 (λ u. bit x u && q u)

  passing-bit : (x u : ℕ) → u < 32 → bit (passing x) u ≡ bit x u && q u
  passing-bit x u h = bit-number 32 (λ v. bit x v && q v) u h

  pub passing-none : passing zero ≡ zero
  passing-none = number_same 32 (λ u. bit zero u && q u) (bit zero) (λ u h. rw bit-of-zero) ∙ number_bit 32 zero (pow_pos 32)

  pub passing-subset : (x : ℕ) → Subset (passing x) x
  passing-subset x u t = both_left (bit x u) (q u) (rw (passing-bit x u (bit_below 32 (passing x) u (number_lt 32 (λ v. bit x v && q v)) t)) at t)

  pub passing-again : (x : ℕ) → passing (passing x) ≡ passing x
  passing-again x =
      number_same 32 (λ u. bit (passing x) u && q u) (λ u. bit x u && q u) (λ u h. rw (passing-bit x u h) (go (bit x u) (q u)))
    where
      go : (a b : Bool) → (a && b) && b ≡ a && b
      go true true = refl
      go true false = refl
      go false b = refl

  -- the first part alone, where it passes
  abbrev pub passing-here : ℕ → ℕ
  passing-here x = cond (q (first_of x)) (2 ^ first_of x) zero

  module _ (x : ℕ) (p : zero < x) (h : x < 2 ^ 32) where
    here_lt : passing-here x < 2 ^ 32
    here_lt = go (q (first_of x))
      where
        go : (b : Bool) → cond b (2 ^ first_of x) zero < 2 ^ 32
        go true = pow-lt (first-lt x p h)
        go false = pow_pos 32

    here-bit : (u : ℕ) → bit (passing-here x) u ≡ q (first_of x) && eqb u (first_of x)
    here-bit u = go (q (first_of x))
      where
        go : (b : Bool) → bit (cond b (2 ^ first_of x) zero) u ≡ b && eqb u (first_of x)
        go true = bit-single (first_of x) u
        go false = bit-of-zero u

    -- one turn of a loop over the parts
    pub passing-next : bit_or (passing-here x) (passing (without_first x)) ≡ passing x
    passing-next =
        same-bits-below 32 (bit_or (passing-here x) (passing (without_first x))) (passing x)
        (or_lt 32 (passing-here x) (passing (without_first x)) here_lt (number_lt 32 (λ v. bit (without_first x) v && q v))) (number_lt 32 (λ v. bit x v && q v))
        (λ u l.
        bit-or (passing-here x) (passing (without_first x)) u
        ∙ ap₂ (λ (a b : Bool). a || b) (here-bit u) (passing-bit (without_first x) u l ∙ ap (λ (b : Bool). b && q u) (bit-without x p h u))
        ∙ go u (eqb u (first_of x)) refl
        ∙ sym (passing-bit x u l))
      where
        go : (u : ℕ) (b : Bool) → eqb u (first_of x) ≡ b → (q (first_of x) && b) || ((bit x u && not b) && q u) ≡ bit x u && q u
        go u true e = rw (eqb-true u (first_of x) e, T_true {b = bit x (first_of x)} (first_bit x p h), and-true, or-false)
        go u false e = rw (and-false, and-true)
