-- A set of pattern parts as a number: "a 32-bit number per node, the sum of 2^u over its parts u".
use Rattle.std.specs.Prelude.{◌&&◌, ◌||◌, ◌∷◌, ◌+◌, ◌^◌, ◌/◌, ◌%◌, ◌<◌}
use Rattle.base_lists.specs.Kit.{Bool, cond, not, List, [], ℕ, suc, zero, T, eqb, get_or}
use Rattle.std.specs.Int.Bits.{bit_or}
use Rattle.base_lists.specs.List.{all_below, any_below}
use Rattle.base_lists.specs.Below.{count_below, least_below, collect}

-- part u is in the set x: the binary digit u of x is 1
unfoldable pub bit : ℕ → ℕ → Bool
bit x u = eqb (x / 2 ^ u % 2) 1

-- the sum of 2 ^ u over the numbers u below n that pass the test
unfoldable pub number_of : ℕ → (ℕ → Bool) → ℕ
number_of zero f = zero
number_of (suc n) f = number_of n f + cond (f n) (2 ^ n) zero

-- every part of a is in b: as a statement, and as the test that computes it
abbrev pub Subset : ℕ → ℕ → Type 0
Subset a b = (u : ℕ) → T (bit a u) → T (bit b u)

unfoldable pub subset_of : ℕ → ℕ → Bool
subset_of a b = all_below 32 (λ u. not (bit a u) || bit b u)

-- some part is in both a and b
unfoldable pub intersects : ℕ → ℕ → Bool
intersects a b = any_below 32 (λ u. bit a u && bit b u)

-- the least part of a set, 32 where it is empty
unfoldable pub first_of : ℕ → ℕ
first_of x = least_below 32 (bit x)

-- the set without its least part
unfoldable pub without_first : ℕ → ℕ
without_first x = number_of 32 (λ u. bit x u && not (eqb u (first_of x)))

-- how many parts a set has
unfoldable pub size_of : ℕ → ℕ
size_of x = count_below 32 (bit x)

-- the parts of a set, rising
unfoldable pub members : ℕ → List ℕ
members x = collect 32 (bit x) (λ u. u)

-- the union of the sets masks[u] over the numbers u of a list
unfoldable pub union_at : List ℕ → List ℕ → ℕ
union_at masks [] = zero
union_at masks (u ∷ us) = bit_or (get_or masks u 0) (union_at masks us)

-- the union of the sets masks[u] over the parts u of a set
unfoldable pub union_over : List ℕ → ℕ → ℕ
union_over masks x = union_at masks (members x)

-- every entry of a table is a set of 32 parts: a number of 32 bits
abbrev pub Words : List ℕ → Type 0
Words table = (i : ℕ) → get_or table i 0 < 2 ^ 32
