-- Tests of whole sets by one operation on numbers: empty, included, with a common part. Assumes nothing.
use Rattle.std.specs.Prelude.{◌≡◌, ◌&&◌, ◌||◌, ◌<◌, ◌^◌}
use Rattle.base_lists.specs.Kit.{◌∙◌, sym, ap, refl, subst, Bool, false, true, not, not-not, or_assoc, and_self, ℕ, zero, T, eqb, eqb→eq, not_T, T_not, eq-eqb}
use lib.Bits.{bit_and, bit_or, and_lt}
use Rattle.base_lists.specs.List.{all_below, any_below}
use Rattle.base_lists.proofs.Tests.{both_left, both_right, T_true, T_false, true-T, false-T, same_test, at-all_below, all_below-at, at-any_below, any_below-at, unless-at, at-unless}
use Rattle.base_lists.proofs.Below.{any_below-same}
use Rattle.base_bits.specs.Bits.{bit, Subset, intersects, subset_of}
use Rattle.base_bits.proofs.Digits.{bit-of-zero, bit_below, no_bits, same_bits, bit-and, bit-or}

-- ---- the operations' laws, from those of each digit

pub bit_and-self : (a : ℕ) → bit_and a a ≡ a
bit_and-self a = same_bits (bit_and a a) a (λ u. bit-and a a u ∙ and_self (bit a u))

pub bit_or-assoc : (a b c : ℕ) → bit_or (bit_or a b) c ≡ bit_or a (bit_or b c)
bit_or-assoc a b c =
    same_bits (bit_or (bit_or a b) c) (bit_or a (bit_or b c))
    (λ u. simp bit-or (or_assoc (bit a u) (bit b u) (bit c u)))

-- ---- the empty set

-- a number below 2 ^ k is 0 exactly when no digit below k is set
pub zero_test : (k x : ℕ) → x < 2 ^ k → eqb x zero ≡ not (any_below k (bit x))
zero_test k x h = same_test to from
  where
    to : T (eqb x zero) → T (not (any_below k (bit x)))
    to t =
        not_T (any_below k (bit x))
        (λ s. let w = any_below-at k (bit x) s in false-T (bit-of-zero w.0) (subst (λ (y : ℕ). T (bit y w.0)) (eqb→eq x zero t) w.2))

    from : T (not (any_below k (bit x))) → T (eqb x zero)
    from t = true-T (eq-eqb x zero (no_bits k x h (λ u l. T_false (λ s. T_not (any_below k (bit x)) t (at-any_below k (bit x) u l s)))))

-- ---- inclusion

pub and-subset : (a b : ℕ) → Subset a b → bit_and a b ≡ a
and-subset a b s = same_bits (bit_and a b) a (λ u. bit-and a b u ∙ go (bit a u) (bit b u) (s u))
  where
    go : (x y : Bool) → (T x → T y) → x && y ≡ x
    go true y h = T_true (h tt)
    go false y h = refl

pub subset-and : (a b : ℕ) → bit_and a b ≡ a → Subset a b
subset-and a b e u t = both_right (bit a u) (bit b u) (true-T (sym (bit-and a b u) ∙ ap (λ (x : ℕ). bit x u) e ∙ T_true t))

-- the test at each digit below k is inclusion, for an a of k digits
pub subset-each : (k a b : ℕ) → Subset a b → T (all_below k (λ u. not (bit a u) || bit b u))
subset-each k a b s = at-all_below k (λ u. not (bit a u) || bit b u) (λ u l. at-unless (bit a u) (bit b u) (s u))

pub each-subset : (k a b : ℕ) → a < 2 ^ k → T (all_below k (λ u. not (bit a u) || bit b u)) → Subset a b
each-subset k a b h t u s = unless-at (bit a u) (bit b u) (all_below-at k (λ v. not (bit a v) || bit b v) t u (bit_below k a u h s)) s

pub subset-test : (k a b : ℕ) → a < 2 ^ k → eqb (bit_and a b) a ≡ all_below k (λ u. not (bit a u) || bit b u)
subset-test k a b h =
    same_test (λ t. subset-each k a b (subset-and a b (eqb→eq (bit_and a b) a t)))
    (λ t. true-T (eq-eqb (bit_and a b) a (and-subset a b (each-subset k a b h t))))

-- ---- a common digit

pub intersect-test : (k a b : ℕ) → a < 2 ^ k → b < 2 ^ k → not (eqb (bit_and a b) zero) ≡ any_below k (λ u. bit a u && bit b u)
intersect-test k a b ha hb =
    ap not (zero_test k (bit_and a b) (and_lt k a b ha hb)) ∙ not-not (any_below k (bit (bit_and a b)))
    ∙ any_below-same k (bit (bit_and a b)) (λ u. bit a u && bit b u) (λ u h. bit-and a b u)

-- the same in the words of the definition
pub intersects-at : (a b : ℕ) → T (intersects a b) → (u : ℕ) × T (bit a u) × T (bit b u)
unfolding intersects
intersects-at a b t =
    let w = any_below-at 32 (λ u. bit a u && bit b u) t in
    (w.0, both_left (bit a w.0) (bit b w.0) w.2, both_right (bit a w.0) (bit b w.0) w.2)

-- ---- the empty set lies in every set, and a set in its union with another

pub subset-none : (b : ℕ) → subset_of 0 b ≡ true
unfolding subset_of
subset-none b = T_true (at-all_below 32 (λ v. not (bit 0 v) || bit b v) (λ v k. rw (bit-of-zero v) tt))
