-- How many masks there are. Assumes nothing.
use Rattle.std.specs.Prelude.{◌≡◌}
use Rattle.base_lists.specs.Kit.{List, ℕ, length}
use Rattle.base_lists.proofs.Tables.{length-tabulate}
use Rattle.base_bits.specs.Bits.{number_of}
use Rattle.graph.specs.Neighbours.{select}
use Rattle.table.specs.Fill.{listed}
use Rattle.table.specs.Prepared.{masks_of}

-- there is a mask for each part
pub length-masks : (n : ℕ) (keys values : List ℕ) → length (masks_of n keys values) ≡ n
unfolding masks_of
length-masks n keys values = length-tabulate n (λ u. number_of 32 (listed (select keys values u)))
