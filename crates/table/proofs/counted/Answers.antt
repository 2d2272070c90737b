-- `table::counted` meets its contract. Assumes nothing.
use Rattle.base_lists.specs.Kit.{refl}
use Rattle.table.proofs.counted.Goals as goal

pub returns : goal.returns
returns c = refl
