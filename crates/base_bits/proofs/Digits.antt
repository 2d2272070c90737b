-- The binary digits of a number, one by one. Assumes nothing.
use Rattle.std.specs.Prelude.{◌≡◌, ◌&&◌, ◌||◌, ◌≤◌, ◌<◌, ◌+◌, ◌*◌, ◌^◌, ◌/◌, ◌%◌}
use Rattle.base_lists.specs.Kit.{◌∙◌, sym, ap, refl, ap₂, Bool, false, true, cond, ℕ, suc, zero, suc-le-suc, zero-lt-suc, lt_of_lt_of_le, lt_of_not-le, div-add-mod', pow-suc, mod-lt, mod-eq_of_lt, div-eq_of_lt, le-add_left, div-one, le-add_right, mul-div_cancel, mul-mod_left, one-mul, zero-div, add-one, one-add, T, eqb, eqb-suc-suc, eqb-suc-zero, eqb-zero-suc, arith}
use lib.Arith.{lt-one}
use lib.Bits.{bit_and, bit_or, and_shr, or_shr, and_mod, or_mod}
use lib.Pow.{pow_pos, pow-lt, pow_mono, shr-shr, shr_lt}
use Rattle.base_lists.proofs.Tests.{false-T}
use Rattle.base_bits.specs.Bits.{bit}

-- ---- the lowest digit, and the digits above it

pub bit-low : (x : ℕ) → bit x zero ≡ eqb (x % 2) 1
unfolding bit
bit-low x = ap (λ (y : ℕ). eqb (y % 2) 1) (div-one x)

pub bit_high : (x u : ℕ) → bit x (suc u) ≡ bit (x / 2) u
unfolding bit
bit_high x u = ap (λ (y : ℕ). eqb (y % 2) 1) (ap (λ (k : ℕ). x / 2 ^ k) (sym (one-add u)) ∙ sym (shr-shr x 1 u))

-- a digit as a number
digit : (d : ℕ) → d < 2 → d ≡ cond (eqb d 1) 1 0
digit zero h = refl
digit (suc zero) h = refl
digit (suc (suc d)) h = absurd (omega arith)

pub low_digit : (x : ℕ) → x % 2 ≡ cond (bit x zero) 1 0
low_digit x = digit (x % 2) (mod-lt x (pow_pos 1)) ∙ ap (λ (b : Bool). cond b 1 0) (sym (bit-low x))

-- ---- where no digit is set

pub bit-of-zero : (u : ℕ) → bit zero u ≡ false
unfolding bit
bit-of-zero u = ap (λ (y : ℕ). eqb (y % 2) 1) (zero-div (2 ^ u))

-- a number below 2 ^ n has no digit from n on
pub bit-above : (n x u : ℕ) → x < 2 ^ n → n ≤ u → bit x u ≡ false
unfolding bit
bit-above n x u h l = ap (λ (y : ℕ). eqb (y % 2) 1) (div-eq_of_lt (lt_of_lt_of_le h (pow_mono l)))

-- so a digit that is set stands below n
pub bit_below : (n x u : ℕ) → x < 2 ^ n → T (bit x u) → u < n
bit_below n x u h t = lt_of_not-le (λ l. false-T (bit-above n x u h l) t)

-- ---- numbers with the same digits are equal

pub half_lt : (n : ℕ) {x : ℕ} → x < 2 ^ suc n → x / 2 < 2 ^ n
half_lt n {x} h = shr_lt n 1 (rw add-one h)

-- two numbers below 2 ^ n whose digits agree below n
pub same-bits-below : (n a b : ℕ) → a < 2 ^ n → b < 2 ^ n → ((u : ℕ) → u < n → bit a u ≡ bit b u) → a ≡ b
same-bits-below zero a b ha hb e = lt-one ha ∙ sym (lt-one hb)
same-bits-below (suc n) a b ha hb e =
    sym (div-add-mod' a 2)
    ∙ ap₂ (λ (x y : ℕ). x * 2 + y)
    (same-bits-below n (a / 2) (b / 2) (half_lt n ha) (half_lt n hb)
    (λ u h. sym (bit_high a u) ∙ e (suc u) (suc-le-suc h) ∙ bit_high b u))
    (low_digit a ∙ ap (λ (d : Bool). cond d 1 0) (e zero (zero-lt-suc n)) ∙ sym (low_digit b))
    ∙ div-add-mod' b 2

-- a number has no more digits than it counts
pub lt-pow : (x : ℕ) → x < 2 ^ x
lt-pow zero = pow_pos zero
lt-pow (suc x) = rw pow-suc (let h : x < 2 ^ x = lt-pow x in omega arith)

-- two numbers whose digits all agree
pub same_bits : (a b : ℕ) → ((u : ℕ) → bit a u ≡ bit b u) → a ≡ b
same_bits a b e =
    same-bits-below (a + b) a b (lt_of_lt_of_le (lt-pow a) (pow_mono (le-add_right a b))) (lt_of_lt_of_le (lt-pow b) (pow_mono (le-add_left b a)))
    (λ u h. e u)

-- a number below 2 ^ n with no digit set below n is 0
pub no_bits : (n x : ℕ) → x < 2 ^ n → ((u : ℕ) → u < n → bit x u ≡ false) → x ≡ zero
no_bits n x h e = same-bits-below n x zero h (pow_pos n) (λ u l. e u l ∙ sym (bit-of-zero u))

-- ---- the digits of the bitwise operations

-- an operation on numbers that works on each digit apart, as f does
module _ (op : ℕ → ℕ → ℕ) (f : Bool → Bool → Bool)
    (shr : (a b k : ℕ) → op a b / 2 ^ k ≡ op (a / 2 ^ k) (b / 2 ^ k))
    (low : (a b k : ℕ) → op a b % 2 ^ k ≡ op (a % 2 ^ k) (b % 2 ^ k))
    (table : (d e : Bool) → eqb (op (cond d 1 0) (cond e 1 0)) 1 ≡ f d e) where
  bit-op : (a b u : ℕ) → bit (op a b) u ≡ f (bit a u) (bit b u)
  unfolding bit
  bit-op a b u =
      ap (λ (x : ℕ). eqb (x % 2) 1) (shr a b u)
      ∙ ap (λ (x : ℕ). eqb x 1) (low (a / 2 ^ u) (b / 2 ^ u) 1)
      ∙ ap₂ (λ (x y : ℕ). eqb (op x y) 1) (digit (a / 2 ^ u % 2) (mod-lt (a / 2 ^ u) (pow_pos 1))) (digit (b / 2 ^ u % 2) (mod-lt (b / 2 ^ u) (pow_pos 1)))
      ∙ table (bit a u) (bit b u)

and-table : (d e : Bool) → eqb (bit_and (cond d 1 0) (cond e 1 0)) 1 ≡ d && e
and-table false e = refl
and-table true false = refl
and-table true true = refl

or-table : (d e : Bool) → eqb (bit_or (cond d 1 0) (cond e 1 0)) 1 ≡ d || e
or-table false false = refl
or-table false true = refl
or-table true false = refl
or-table true true = refl

pub bit-and : (a b u : ℕ) → bit (bit_and a b) u ≡ bit a u && bit b u
bit-and = bit-op bit_and (λ x y. x && y) and_shr and_mod and-table

pub bit-or : (a b u : ℕ) → bit (bit_or a b) u ≡ bit a u || bit b u
bit-or = bit-op bit_or (λ x y. x || y) or_shr or_mod or-table

-- ---- one digit

-- `1 << u`: the digit is not shifted out
pub one_shl : (k u : ℕ) → u < k → (1 * 2 ^ u) % 2 ^ k ≡ 2 ^ u
one_shl k u h = rw one-mul (mod-eq_of_lt (pow-lt h))

pub bit-single : (u v : ℕ) → bit (2 ^ u) v ≡ eqb v u
bit-single zero zero = bit-low 1
bit-single zero (suc v) = bit_high 1 v ∙ bit-of-zero v ∙ sym (eqb-suc-zero v)
bit-single (suc u) zero = bit-low (2 ^ suc u) ∙ ap (λ (x : ℕ). eqb x 1) (ap (λ (x : ℕ). x % 2) (pow-suc 2 u) ∙ mul-mod_left (2 ^ u) 2) ∙ sym (eqb-zero-suc u)
bit-single (suc u) (suc v) =
    bit_high (2 ^ suc u) v ∙ ap (λ (x : ℕ). bit x v) (ap (λ (x : ℕ). x / 2) (pow-suc 2 u) ∙ mul-div_cancel (2 ^ u) (pow_pos 1))
    ∙ bit-single u v ∙ sym (eqb-suc-suc v u)
