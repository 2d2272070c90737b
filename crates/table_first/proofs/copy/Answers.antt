-- `table_first::copy` meets its contract: the set of a node is that of the other table. Assumes nothing.
use Rattle.std.specs.Prelude.{◌<◌}
use Rattle.base_lists.specs.Kit.{length, get_or, rules}
use Rattle.base_lists.specs.List.{Below}
use Rattle.table_first.proofs.copy.Goals as goal

-- the other table has an entry for each node of the list
pub write_sets-requires-clause-callable : goal.write_sets-requires-clause-callable
unfolding Below
write_sets-requires-clause-callable c =
    λ i h. let within : get_or c.args.nodes.now i 0 < length c.args.from.now = c.requires.below i h in search rules

pub returns : goal.returns
returns c = c.write_sets.ensures (λ v. get_or c.args.from.now v 0) (λ v set p. search rules)
