-- The parts of a set whose mask lies within a union. Assumes nothing.
use Rattle.std.specs.Prelude.{◌≡◌, ◌<◌, ◌^◌}
use Rattle.base_lists.specs.Kit.{◌∙◌, sym, ap, Bool, false, true, cond, List, ℕ, zero, get_or}
use lib.Bits.{bit_or, or_zero_r}
use Rattle.base_bits.specs.Bits.{Subset, subset_of, first_of, without_first}
use Rattle.base_bits.proofs.Passing.{passing-none, passing-subset, passing-next}
use Rattle.base_bits.proofs.Tests.{bit_or-assoc}
use Rattle.bounded_layer.specs.Pass.{kept_within}

module _ (masks : List ℕ) (f : ℕ) where
  stays : ℕ → Bool
  stays u = subset_of (get_or masks u 0) f

  pub kept-none : kept_within masks f zero ≡ zero
  unfolding kept_within stays
  kept-none = passing-none stays

  pub kept-subset : (x : ℕ) → Subset (kept_within masks f x) x
  unfolding kept_within stays
  kept-subset x = passing-subset stays x

  -- One turn of the loop over the parts x that are left: the first of them stays or does not.
  module _ (x : ℕ) (p : zero < x) (h : x < 2 ^ 32) where
    turn : (kept : ℕ) (t : Bool) → stays (first_of x) ≡ t
        → bit_or (bit_or kept (cond t (2 ^ first_of x) zero)) (kept_within masks f (without_first x)) ≡ bit_or kept (kept_within masks f x)
    unfolding kept_within stays
    turn kept t e =
        bit_or-assoc kept (cond t (2 ^ first_of x) zero) (kept_within masks f (without_first x))
        ∙ ap (bit_or kept)
        (ap (λ (y : Bool). bit_or (cond y (2 ^ first_of x) zero) (kept_within masks f (without_first x))) (sym e) ∙ passing-next stays x p h)

    pub turn-stays : (kept : ℕ) → subset_of (get_or masks (first_of x) 0) f ≡ true
        → bit_or (bit_or kept (2 ^ first_of x)) (kept_within masks f (without_first x)) ≡ bit_or kept (kept_within masks f x)
    unfolding stays
    turn-stays kept e = turn kept true e

    pub turn-goes : (kept : ℕ) → subset_of (get_or masks (first_of x) 0) f ≡ false
        → bit_or kept (kept_within masks f (without_first x)) ≡ bit_or kept (kept_within masks f x)
    unfolding stays
    turn-goes kept e = ap (λ (k : ℕ). bit_or k (kept_within masks f (without_first x))) (sym (or_zero_r kept)) ∙ turn kept false e
