-- The lowest digit that is set, the number without it, and the members of a set in rising order. Assumes nothing.
use Rattle.std.specs.Prelude.{◌≡◌, ◌&&◌, ◌∷◌, ◌<◌, ◌+◌, ◌-◌, ◌^◌, ◌/◌, ◌%◌}
use Rattle.base_lists.specs.Kit.{◌∙◌, sym, ap, refl, ap₂, Bool, false, true, cond, not, [], ℕ, suc, zero, lt_of_lt_of_le, lt_of_le_of_lt, lt_of_not-le, pow-suc, eq-sub_of_add-eq, min-zero, ne_of_gt, zero-min, T, eqb, length, arith}
use lib.Arith.{lt-one}
use lib.Bits.{bit_and, and_step, and_le_l, and_le_r}
use lib.Count.{count_trailing_zeros, under}
use Rattle.base_lists.specs.List.{any, any_below}
use Rattle.base_lists.specs.Below.{least_below, collect}
use Rattle.base_lists.proofs.Below.{least_below-same, least_below-none, least_below-at, collect-none, collect-first, any-collect, length-collect}
use Rattle.base_bits.specs.Bits.{bit, number_of, first_of, without_first, size_of, members}
use Rattle.base_bits.proofs.Digits.{bit_high, bit-of-zero, bit_below, low_digit, half_lt, no_bits, same-bits-below}
use Rattle.base_bits.proofs.Numbers.{bit-number, number_lt, bit-sub}
use Rattle.base_bits.proofs.Tests.{bit_and-self}

-- ---- the lowest digit that is set

-- the zeros below it are as many as its place says
pub trailing-least : (k x : ℕ) → count_trailing_zeros k x ≡ least_below k (bit x)
unfolding count_trailing_zeros least_below
trailing-least zero x = refl
trailing-least (suc k) x =
    ap₂ under (low_digit x) (trailing-least k (x / 2) ∙ least_below-same k (bit (x / 2)) (λ u. bit x (suc u)) (λ u h. sym (bit_high x u)))
    ∙ go (bit x zero) (least_below k (λ u. bit x (suc u)))
  where
    go : (b : Bool) (t : ℕ) → under (cond b 1 0) t ≡ cond b zero (suc t)
    go true t = refl
    go false t = refl

module _ (k x : ℕ) (p : zero < x) (h : x < 2 ^ k) where
  -- a number other than 0 has one
  pub trailing_lt : count_trailing_zeros k x < k
  trailing_lt =
      rw trailing-least
      (lt_of_not-le (λ l. ne_of_gt p (no_bits k x h (λ u i. least_below-none k (bit x) u (lt_of_lt_of_le i l)))))

  pub trailing-bit : T (bit x (count_trailing_zeros k x))
  trailing-bit = rw trailing-least (least_below-at k (bit x) (rw trailing-least at trailing_lt))

  -- it stands below n where the number is below 2 ^ n: an index into a table of n entries
  pub trailing_below : (n : ℕ) → x < 2 ^ n → count_trailing_zeros k x < n
  trailing_below n l = bit_below n x (count_trailing_zeros k x) l trailing-bit

-- none below it is set
pub trailing-none : (k x u : ℕ) → u < count_trailing_zeros k x → bit x u ≡ false
trailing-none k x u h = least_below-none k (bit x) u (rw trailing-least at h)

-- ---- the number without it

-- `x & (x - 1)` clears it
pub and-pred : (k x : ℕ) → zero < x → x < 2 ^ k → bit_and x (x - 1) + 2 ^ count_trailing_zeros k x ≡ x
unfolding count_trailing_zeros
and-pred zero x p h = absurd (ne_of_gt p (lt-one h))
and-pred (suc k) x p h = go (bit x zero) (low_digit x) (and-pred k (x / 2))
  where
    go : (b : Bool) → x % 2 ≡ cond b 1 0
        → (zero < x / 2 → x / 2 < 2 ^ k → bit_and (x / 2) (x / 2 - 1) + 2 ^ count_trailing_zeros k (x / 2) ≡ x / 2)
        → bit_and x (x - 1) + 2 ^ under (x % 2) (count_trailing_zeros k (x / 2)) ≡ x
    go true e r =
        let odd : (x - 1) / 2 ≡ x / 2 = omega arith in
        let low : (x - 1) % 2 ≡ 0 = omega arith in
        rw (and_step, odd, low, e, bit_and-self, min-zero) (omega arith)
    go false e r =
        let even : (x - 1) / 2 ≡ x / 2 - 1 = omega arith in
        let low : (x - 1) % 2 ≡ 1 = omega arith in
        rw (and_step, even, low, e, zero-min, pow-suc) (omega (arith, r (omega arith) (half_lt k h)))

pub and-pred-lt : (x : ℕ) → zero < x → bit_and x (x - 1) < x
and-pred-lt x p = omega (arith, and_le_r x (x - 1))

module _ (k x : ℕ) (p : zero < x) (h : x < 2 ^ k) where
  and-pred-below : bit_and x (x - 1) < 2 ^ k
  and-pred-below = lt_of_le_of_lt (and_le_l x (x - 1)) h

  pub and-pred-sub : bit_and x (x - 1) ≡ x - 2 ^ count_trailing_zeros k x
  and-pred-sub = eq-sub_of_add-eq (bit_and x (x - 1)) (2 ^ count_trailing_zeros k x) (and-pred k x p h)

  pub bit-and-pred : (u : ℕ) → bit (bit_and x (x - 1)) u ≡ bit x u && not (eqb u (count_trailing_zeros k x))
  bit-and-pred u = ap (λ (y : ℕ). bit y u) and-pred-sub ∙ bit-sub x (count_trailing_zeros k x) u (trailing-bit k x p h)

  -- it is the set of the other digits
  pub and-pred-number : bit_and x (x - 1) ≡ number_of k (λ u. bit x u && not (eqb u (least_below k (bit x))))
  and-pred-number =
      same-bits-below k (bit_and x (x - 1)) (number_of k f) and-pred-below (number_lt k f)
      (λ u l. bit-and-pred u ∙ rw trailing-least (sym (bit-number k f u l)))
    where
      f : ℕ → Bool
      f u = bit x u && not (eqb u (least_below k (bit x)))

  -- the digits that are set, rising: the lowest, and then those of `x & (x - 1)`
  pub collect-bits : (f : ℕ → ℕ) → collect k (bit x) f ≡ f (count_trailing_zeros k x) ∷ collect k (bit (bit_and x (x - 1))) f
  collect-bits f =
      collect-first k (bit x) (bit (bit_and x (x - 1))) f (count_trailing_zeros k x) (trailing_lt k x p h) (trailing-bit k x p h) (trailing-none k x)
      (λ u l. bit-and-pred u)

-- ---- the same at 32 digits, in the words of the definitions

pub first-trailing : (x : ℕ) → count_trailing_zeros 32 x ≡ first_of x
unfolding first_of
first-trailing x = trailing-least 32 x

pub first-none : (x u : ℕ) → u < first_of x → bit x u ≡ false
first-none x u l = trailing-none 32 x u (rw first-trailing l)

module _ (x : ℕ) (p : zero < x) (h : x < 2 ^ 32) where
  pub first-lt : first_of x < 32
  first-lt = rw (← first-trailing) (trailing_lt 32 x p h)

  pub first_bit : T (bit x (first_of x))
  first_bit = rw (← first-trailing) (trailing-bit 32 x p h)

  -- it is below n, where the set has only parts below n
  pub first_below : (n : ℕ) → x < 2 ^ n → first_of x < n
  first_below n l = bit_below n x (first_of x) l first_bit

  pub without-and : bit_and x (x - 1) ≡ without_first x
  unfolding without_first first_of
  without-and = and-pred-number 32 x p h

  pub bit-without : (u : ℕ) → bit (without_first x) u ≡ bit x u && not (eqb u (first_of x))
  bit-without u = rw (← without-and, ← first-trailing) (bit-and-pred 32 x p h u)

  pub without-lt : without_first x < x
  without-lt = rw (← without-and) (and-pred-lt x p)

-- ---- the members, rising

pub members-none : members zero ≡ []
unfolding members
members-none = collect-none 32 (bit zero) (λ u. u) (λ u h. bit-of-zero u)

-- One turn of a loop over the members of a set: take the lowest by `trailing_zeros`, and go on with `x & (x - 1)`.
pub members-next : (x : ℕ) → zero < x → x < 2 ^ 32 → members x ≡ count_trailing_zeros 32 x ∷ members (bit_and x (x - 1))
unfolding members
members-next x p h = collect-bits 32 x p h (λ u. u)

pub members-first : (x : ℕ) → zero < x → x < 2 ^ 32 → members x ≡ first_of x ∷ members (without_first x)
members-first x p h = members-next x p h ∙ ap₂ (λ (u y : ℕ). u ∷ members y) (first-trailing x) (without-and x p h)

-- what holds of the members holds of the parts of the set
pub length-members : (x : ℕ) → length (members x) ≡ size_of x
unfolding members size_of
length-members x = length-collect 32 (bit x) (λ u. u)

pub any-members : (q : ℕ → Bool) (x : ℕ) → any q (members x) ≡ any_below 32 (λ u. bit x u && q u)
unfolding members
any-members q x = any-collect q 32 (bit x) (λ u. u)
