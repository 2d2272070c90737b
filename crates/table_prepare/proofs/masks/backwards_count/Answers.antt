-- `table_prepare::masks::backwards_count` meets its contract: the two choices. Assumes nothing.
use Rattle.base_lists.specs.Kit.{rules}
use Rattle.table.specs.Row.{among}
use Rattle.table_prepare.proofs.masks.backwards_count.Goals as goal

pub returns-in-Both : goal.returns-in-Both
unfolding among
returns-in-Both c = search rules

pub returns-in-Forward : goal.returns-in-Forward
unfolding among
returns-in-Forward c = search rules
