-- A number by its digits: sums and differences of sets, and the number whose digits are those that pass a test. Assumes nothing.
use Rattle.std.specs.Prelude.{◌≡◌, ◌⊎◌, ◌&&◌, ◌||◌, ◌≤◌, ◌<◌, ◌+◌, ◌-◌, ◌*◌, ◌^◌}
use Rattle.base_lists.specs.Kit.{◌∙◌, sym, ap, refl, subst, inl, inr, Bool, false, true, cond, not, and-true, or-false, and-false, ℕ, suc, zero, not-suc-le-zero, le_refl, le_of_suc-le-suc, le_trans, le_of_eq, eq-or-lt_of_le, add-zero, lt_of_lt_of_le, pow-suc, eq-sub_of_add-eq, le-add_left, ne_of_lt, add-one, T, eqb, eqb→eq, arith, eq-eqb, ne_eqb, eqb-true, List, ltb, length, get_or, set, get_or-set_other, get_or-set_same, set_out, ltb-false, eqb-false, ltb-true, replicate}
use native.Mathlib.Decide.{dec_lt}
use lib.Bits.{bit_and, bit_or, or_disjoint}
use lib.Pow.{pow_pos, pow_mono}
use Rattle.base_bits.specs.Bits.{bit, number_of, Subset, Words}
use Rattle.base_bits.proofs.Digits.{bit-of-zero, bit-above, same_bits, same-bits-below, lt-pow, bit-and, bit-or, bit-single}

-- ---- a sum of two numbers with no digit in common, and of a number and one digit more

pub or-sum : (a b : ℕ) → ((u : ℕ) → bit a u && bit b u ≡ false) → bit_or a b ≡ a + b
or-sum a b e = or_disjoint a b (same_bits (bit_and a b) zero (λ u. bit-and a b u ∙ e u ∙ sym (bit-of-zero u)))

pub bit-sum : (a b : ℕ) → ((u : ℕ) → bit a u && bit b u ≡ false) → (u : ℕ) → bit (a + b) u ≡ bit a u || bit b u
bit-sum a b e u = rw (← or-sum a b e) (bit-or a b u)

single-apart : (a u : ℕ) → bit a u ≡ false → (v : ℕ) → bit a v && bit (2 ^ u) v ≡ false
single-apart a u e v = rw bit-single (go (eqb v u) refl)
  where
    go : (b : Bool) → eqb v u ≡ b → bit a v && b ≡ false
    go true q = rw (eqb-true v u q, e)
    go false q = and-false (bit a v)

pub or-single : (a u : ℕ) → bit a u ≡ false → bit_or a (2 ^ u) ≡ a + 2 ^ u
or-single a u e = or-sum a (2 ^ u) (single-apart a u e)

pub bit-add : (a u v : ℕ) → bit a u ≡ false → bit (a + 2 ^ u) v ≡ bit a v || eqb v u
bit-add a u v e = bit-sum a (2 ^ u) (single-apart a u e) v ∙ rw bit-single

-- the digit u is added where the test is true
pub bit-add-if : (b : Bool) (a u v : ℕ) → bit a u ≡ false → bit (a + cond b (2 ^ u) zero) v ≡ bit a v || (b && eqb v u)
bit-add-if true a u v e = bit-add a u v e
bit-add-if false a u v e = rw (add-zero, or-false)

-- ---- the number whose digits are those that pass a test

pub number_lt : (n : ℕ) (f : ℕ → Bool) → number_of n f < 2 ^ n
unfolding number_of
number_lt zero f = pow_pos zero
number_lt (suc n) f = rw pow-suc (go (f n) (number_lt n f))
  where
    go : (b : Bool) {x : ℕ} → x < 2 ^ n → x + cond b (2 ^ n) zero < 2 ^ n * 2
    go true h = omega arith
    go false h = omega arith

pub bit-number-above : (n : ℕ) (f : ℕ → Bool) (u : ℕ) → n ≤ u → bit (number_of n f) u ≡ false
bit-number-above n f u h = bit-above n (number_of n f) u (number_lt n f) h

pub bit-number : (n : ℕ) (f : ℕ → Bool) (u : ℕ) → u < n → bit (number_of n f) u ≡ f u
unfolding number_of
bit-number zero f u h = absurd (not-suc-le-zero h)
bit-number (suc n) f u h =
    bit-add-if (f n) (number_of n f) n u (bit-number-above n f n (le_refl n)) ∙ go (eq-or-lt_of_le (le_of_suc-le-suc h)) (bit-number n f u)
  where
    go : (u ≡ n) ⊎ (u < n) → (u < n → bit (number_of n f) u ≡ f u) → bit (number_of n f) u || (f n && eqb u n) ≡ f u
    go (inl e) r = rw (bit-number-above n f u (le_of_eq (sym e)), eq-eqb u n e, and-true, e)
    go (inr l) r = rw (ne_eqb u n (ne_of_lt l), and-false, or-false) (r l)

-- one number more, as a loop over the numbers adds it: `set + (1 << n)` or `set | (1 << n)` where it passes, nothing where it does not
pub number-next : (n : ℕ) (f : ℕ → Bool) → number_of (n + 1) f ≡ number_of n f + cond (f n) (2 ^ n) zero
unfolding number_of
number-next n f = ap (λ (m : ℕ). number_of m f) (add-one n)

pub number-insert : (n : ℕ) (f : ℕ → Bool) → f n ≡ true → bit_or (number_of n f) (2 ^ n) ≡ number_of (n + 1) f
number-insert n f e = or-single (number_of n f) n (bit-number-above n f n (le_refl n)) ∙ sym (number-next n f ∙ rw e)

pub number-skip : (n : ℕ) (f : ℕ → Bool) → f n ≡ false → number_of n f ≡ number_of (n + 1) f
number-skip n f e = sym (number-next n f ∙ rw (e, add-zero))

-- where no number from n on passes, the digits are the test
pub bit-number-all : (n : ℕ) (f : ℕ → Bool) → ((u : ℕ) → n ≤ u → f u ≡ false) → (u : ℕ) → bit (number_of n f) u ≡ f u
bit-number-all n f e u = go (dec_lt u n)
  where
    go : Dec (u < n) → bit (number_of n f) u ≡ f u
    go (yes h) = bit-number n f u h
    go (no h) =
        let l : n ≤ u = omega arith in
        bit-number-above n f u l ∙ sym (e u l)

-- a number below 2 ^ n is the number of its own digits
pub number_bit : (n x : ℕ) → x < 2 ^ n → number_of n (bit x) ≡ x
number_bit n x h = same-bits-below n (number_of n (bit x)) x (number_lt n (bit x)) h (bit-number n (bit x))

-- two tests that agree below n
pub number_same : (n : ℕ) (f g : ℕ → Bool) → ((u : ℕ) → u < n → f u ≡ g u) → number_of n f ≡ number_of n g
number_same n f g e =
    same-bits-below n (number_of n f) (number_of n g) (number_lt n f) (number_lt n g)
    (λ u h. bit-number n f u h ∙ e u h ∙ sym (bit-number n g u h))

-- numbers from n to m that do not pass add nothing: a set of n parts fits a longer number
pub number-wider : (n m : ℕ) (f : ℕ → Bool) → n ≤ m → ((u : ℕ) → n ≤ u → u < m → f u ≡ false) → number_of n f ≡ number_of m f
number-wider n m f l e =
    same-bits-below m (number_of n f) (number_of m f) (lt_of_lt_of_le (number_lt n f) (pow_mono l)) (number_lt m f) (λ u h. go u h (dec_lt u n))
  where
    go : (u : ℕ) → u < m → Dec (u < n) → bit (number_of n f) u ≡ bit (number_of m f) u
    go u h (yes k) = bit-number n f u k ∙ sym (bit-number m f u h)
    go u h (no k) =
        let g : n ≤ u = omega arith in
        bit-number-above n f u g ∙ sym (e u g h) ∙ sym (bit-number m f u h)

-- ---- a number less some of its digits, and less one digit

-- the digits of a that are not digits of b
abbrev rest : ℕ → ℕ → ℕ
rest a b = number_of a (λ u. bit a u && not (bit b u))

bit-rest : (a b u : ℕ) → bit (rest a b) u ≡ bit a u && not (bit b u)
bit-rest a b u =
    bit-number-all a (λ v. bit a v && not (bit b v)) (λ v h. ap (λ (x : Bool). x && not (bit b v)) (bit-above a a v (lt-pow a) h)) u

rest-add : (a b : ℕ) → Subset b a → rest a b + b ≡ a
rest-add a b s =
    same_bits (rest a b + b) a
    (λ u. bit-sum (rest a b) b (λ v. rw bit-rest (apart (bit a v) (bit b v))) u ∙ rw bit-rest (joined (bit a u) (bit b u) (s u)))
  where
    apart : (x y : Bool) → (x && not y) && y ≡ false
    apart true true = refl
    apart true false = refl
    apart false y = refl

    joined : (x y : Bool) → (T y → T x) → (x && not y) || y ≡ x
    joined true true f = refl
    joined true false f = refl
    joined false true f = absurd (f tt)
    joined false false f = refl

-- a set is no greater a number than one that includes it
pub subset-le : (a b : ℕ) → Subset b a → b ≤ a
subset-le a b s = le_trans (le-add_left b (rest a b)) (le_of_eq (rest-add a b s))

pub bit-minus : (a b : ℕ) → Subset b a → (u : ℕ) → bit (a - b) u ≡ bit a u && not (bit b u)
bit-minus a b s u = ap (λ (x : ℕ). bit x u) (sym (eq-sub_of_add-eq (rest a b) b (rest-add a b s))) ∙ bit-rest a b u

single-subset : (a u : ℕ) → T (bit a u) → Subset (2 ^ u) a
single-subset a u t v s = subst (λ (w : ℕ). T (bit a w)) (sym (eqb→eq v u (rw bit-single at s))) t

pub bit-sub : (a u v : ℕ) → T (bit a u) → bit (a - 2 ^ u) v ≡ bit a v && not (eqb v u)
bit-sub a u v t = bit-minus a (2 ^ u) (single-subset a u t) v ∙ rw bit-single

-- ---- the number of no digit

-- the set of no part
pub number-none : (k : ℕ) → number_of k (λ u. false) ≡ 0
unfolding number_of
number-none zero = refl
number-none (suc k) = omega (arith, number-none k)

-- a set, or none of its parts
pub number-if : (b : Bool) (k : ℕ) (p : ℕ → Bool) → cond b (number_of k p) 0 ≡ number_of k (λ u. b && p u)
number-if true k p = refl
number-if false k p = sym (number-none k)

-- ---- tables of words

pub words-set : (xs : List ℕ) (i x : ℕ) → Words xs → x < 2 ^ 32 → Words (set xs i x)
words-set xs i x w h k = go (eqb k i) refl (ltb i (length xs)) refl
  where
    go : (b : Bool) → eqb k i ≡ b → (a : Bool) → ltb i (length xs) ≡ a → get_or (set xs i x) k 0 < 2 ^ 32
    go true e true l = rw (eqb-true k i e, get_or-set_same xs i x 0 (ltb-true i (length xs) l)) h
    go true e false l = rw (set_out xs i x (omega (arith, ltb-false i (length xs) l))) (w k)
    go false e a l = rw (get_or-set_other xs i k x 0 (eqb-false k i e)) (w k)

pub words-none : (n : ℕ) → Words (replicate n 0)
words-none zero i = omega arith
words-none (suc n) zero = omega arith
words-none (suc n) (suc i) = words-none n i
