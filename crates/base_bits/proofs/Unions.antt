-- The union of the sets that a table gives to the parts of a set. Assumes nothing.
use Rattle.std.specs.Prelude.{◌≡◌, ◌&&◌, ◌||◌, ◌∷◌, ◌<◌, ◌-◌, ◌^◌, ◌++◌}
use Rattle.base_lists.specs.Kit.{◌∙◌, sym, ap, Bool, List, [], ℕ, zero, get_or, refl, ap₂, suc, suc-le-suc, zero-lt-suc, set, get_or-set_other}
use lib.Bits.{bit_and, bit_or, or_zero_l}
use lib.Count.{count_trailing_zeros}
use Rattle.base_lists.specs.List.{any, any_below, Occurs}
use Rattle.base_bits.specs.Bits.{bit, members, union_at, union_over}
use Rattle.base_bits.proofs.Digits.{bit-of-zero, bit-or}
use Rattle.base_bits.proofs.Tests.{bit_or-assoc}
use Rattle.base_bits.proofs.Members.{members-none, members-next, any-members}

bit-union_at : (masks us : List ℕ) (v : ℕ) → bit (union_at masks us) v ≡ any (λ u. bit (get_or masks u 0) v) us
unfolding union_at any
bit-union_at masks [] v = bit-of-zero v
bit-union_at masks (u ∷ us) v =
    bit-or (get_or masks u 0) (union_at masks us) v ∙ ap (λ (b : Bool). bit (get_or masks u 0) v || b) (bit-union_at masks us v)

-- v is in the union when it is in masks[u] for some part u of the set
pub bit-union_over : (masks : List ℕ) (x v : ℕ) → bit (union_over masks x) v ≡ any_below 32 (λ u. bit x u && bit (get_or masks u 0) v)
unfolding union_over
bit-union_over masks x v = bit-union_at masks (members x) v ∙ any-members (λ u. bit (get_or masks u 0) v) x

pub union_over-none : (masks : List ℕ) → union_over masks zero ≡ zero
unfolding union_over union_at
union_over-none masks = ap (union_at masks) members-none

-- one turn of a loop over the parts, and the same with the union of the turns before
pub union_over-next : (masks : List ℕ) (x : ℕ) → zero < x → x < 2 ^ 32
    → union_over masks x ≡ bit_or (get_or masks (count_trailing_zeros 32 x) 0) (union_over masks (bit_and x (x - 1)))
unfolding union_over union_at
union_over-next masks x p h = ap (union_at masks) (members-next x p h)

pub union_over-turn : (masks : List ℕ) (union x : ℕ) → zero < x → x < 2 ^ 32
    → bit_or (bit_or union (get_or masks (count_trailing_zeros 32 x) 0)) (union_over masks (bit_and x (x - 1))) ≡ bit_or union (union_over masks x)
union_over-turn masks union x p h =
    bit_or-assoc union (get_or masks (count_trailing_zeros 32 x) 0) (union_over masks (bit_and x (x - 1))) ∙ ap (bit_or union) (sym (union_over-next masks x p h))

-- ---- unions over two lists, and of two tables

pub union_at-append : (t xs ys : List ℕ) → union_at t (xs ++ ys) ≡ bit_or (union_at t xs) (union_at t ys)
unfolding union_at
union_at-append t [] ys = sym (or_zero_l (union_at t ys))
union_at-append t (x ∷ xs) ys = ap (bit_or (get_or t x 0)) (union_at-append t xs ys) ∙ sym (bit_or-assoc (get_or t x 0) (union_at t xs) (union_at t ys))

-- a union does not see a node that is not in the list
pub union_at-set : (old : List ℕ) (v y : ℕ) (l : List ℕ) → (Occurs l v → ⊥) → union_at (set old v y) l ≡ union_at old l
unfolding union_at
union_at-set old v y [] out = refl
union_at-set old v y (w ∷ l) out =
    ap₂ (λ (a b : ℕ). bit_or a b) (get_or-set_other old v w y 0 (λ e. out (zero, zero-lt-suc _, e)))
    (union_at-set old v y l (λ (i, h, e). out (suc i, suc-le-suc h, e)))

-- two tables that agree at the entries of the list
pub union_at-same : (xs ys l : List ℕ) → ((w : ℕ) → Occurs l w → get_or xs w 0 ≡ get_or ys w 0) → union_at xs l ≡ union_at ys l
unfolding union_at
union_at-same xs ys [] e = refl
union_at-same xs ys (w ∷ l) e =
    ap₂ (λ (a b : ℕ). bit_or a b) (e w (zero, zero-lt-suc _, refl)) (union_at-same xs ys l (λ x (i, h, q). e x (suc i, suc-le-suc h, q)))
