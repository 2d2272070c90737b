-- `table_prepare::nodes::list_all` meets its contract. The loop's invariant: the entries before v are the nodes, and the others as they were.
-- Assumes nothing.
use Rattle.std.specs.Prelude.{◌≡◌, ◌++◌}
use Rattle.base_lists.specs.Kit.{drop}
use Rattle.base_lists.specs.List.{tabulate}
use Rattle.table_prepare.proofs.nodes.list_all.Given as goal

abbrev pub invariant-loop-v : goal.invariant-loop-v
invariant-loop-v l = l.nodes ≡ tabulate l.v (λ w. w) ++ drop l.v l.initial.nodes
