-- `table::rule::none_kept` meets its contract. Assumes nothing.
use Rattle.base_lists.specs.Kit.{refl}
use Rattle.table.proofs.rule.none_kept.Goals as goal

pub returns : goal.returns
returns c = refl
