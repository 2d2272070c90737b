-- `table_first::start` meets its contract: the set of a node is that of the parts alike. Assumes nothing.
use Rattle.std.specs.Prelude.{◌<◌}
use Rattle.base_lists.specs.Kit.{length, get_or, rules}
use Rattle.base_lists.specs.List.{Below}
use Rattle.table.specs.First.{start_node}
use Rattle.table_first.proofs.start.Goals as goal

-- each node of the list has a label
pub write_sets-requires-clause-callable : goal.write_sets-requires-clause-callable
unfolding Below
write_sets-requires-clause-callable c =
    λ i h. let within : get_or c.args.nodes.now i 0 < length c.args.node_labels.now = c.requires.below i h in search rules

pub returns : goal.returns
unfolding start_node
returns c = c.write_sets.ensures (start_node c.args.part_labels.now c.args.node_labels.now) (λ v set p. search rules)
