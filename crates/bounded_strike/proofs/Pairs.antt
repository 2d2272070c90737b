-- How many pairs a table has, as a sum in std's word. Assumes nothing.
use Rattle.std.specs.Prelude.{◌≡◌, ◌∷◌, ◌+◌}
use Rattle.std.specs.List.{sum_by}
use Rattle.std.proofs.lemmas.List.Sums.{sum_by-cons}
use Rattle.base_lists.specs.Kit.{◌∙◌, ap, refl, List, [], ℕ}
use Rattle.base_lists.specs.List.{sum}
use Rattle.base_bits.specs.Bits.{size_of}
use Rattle.table_row.specs.Row.{pairs}

pub sum_by-pairs : (t : List ℕ) → sum_by size_of t ≡ pairs t
unfolding pairs sum
sum_by-pairs [] = refl
sum_by-pairs (x ∷ xs) = sum_by-cons size_of x xs ∙ ap (λ (n : ℕ). size_of x + n) (sum_by-pairs xs)
