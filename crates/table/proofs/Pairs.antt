-- How many pairs a table has. Assumes nothing.
use Rattle.std.specs.Prelude.{◌≡◌, ◌∷◌, ◌≤◌, ◌<◌, ◌+◌, ◌-◌, ◌*◌}
use Rattle.base_lists.specs.Kit.{List, [], ℕ, suc, zero, zero-le, not-suc-le-zero, le_of_suc-le-suc, length, get_or, set, arith}
use Rattle.base_lists.specs.List.{sum}
use Rattle.base_bits.specs.Bits.{size_of}
use Rattle.base_bits.proofs.Counts.{size-le}
use Rattle.table.specs.Row.{pairs}

-- a set has no more parts than the table pairs
pub pairs-at : (xs : List ℕ) (v : ℕ) → v < length xs → size_of (get_or xs v 0) ≤ pairs xs
unfolding pairs sum
pairs-at [] v h = absurd (not-suc-le-zero h)
pairs-at (x ∷ xs) zero h = omega arith
pairs-at (x ∷ xs) (suc v) h = omega (arith, pairs-at xs v (le_of_suc-le-suc h))

pub pairs-le : (xs : List ℕ) → pairs xs ≤ 32 * length xs
unfolding pairs sum
pairs-le [] = zero-le
pairs-le (x ∷ xs) = omega (arith, size-le x, pairs-le xs)

pub pairs-put : (xs : List ℕ) (v y : ℕ) → v < length xs → pairs xs - size_of (get_or xs v 0) + size_of y ≡ pairs (set xs v y)
unfolding pairs sum
pairs-put [] v y h = absurd (not-suc-le-zero h)
pairs-put (x ∷ xs) zero y h = omega arith
pairs-put (x ∷ xs) (suc v) y h = omega (arith, pairs-put xs v y (le_of_suc-le-suc h), pairs-at xs v (le_of_suc-le-suc h))
