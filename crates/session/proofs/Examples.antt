-- Reading out sets that no machine has, by computation. Assumes nothing.
use Rattle.std.specs.Prelude.{◌≡◌, ◌∷◌}
use Rattle.base_lists.specs.Kit.{refl, []}
use Rattle.base_lists.specs.Below.{count_below}
use Rattle.base_bits.specs.Bits.{bit, size_of}
use Rattle.table.specs.Union.{union_all}
use Rattle.session.specs.Tables.{occur_or_none}

-- two parts at two nodes, of a pattern of two
pub as_many : occur_or_none 2 (1 ∷ 2 ∷ []) ≡ 1 ∷ 2 ∷ []
unfolding occur_or_none union_all size_of count_below bit
as_many = refl

-- where the tables say that there is one part, the second is one too many, and all is 0
pub one-too-many : occur_or_none 1 (1 ∷ 2 ∷ []) ≡ 0 ∷ 0 ∷ []
unfolding occur_or_none union_all size_of count_below bit
one-too-many = refl
