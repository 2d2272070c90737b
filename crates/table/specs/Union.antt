-- The union of all sets of a table.
use Rattle.std.specs.Prelude.{◌∷◌}
use Rattle.base_lists.specs.Kit.{List, [], ℕ, zero}
use Rattle.std.specs.Int.Bits.{bit_or}

unfoldable pub union_all : List ℕ → ℕ
union_all [] = zero
union_all (x ∷ xs) = bit_or x (union_all xs)
