-- `table_round::unmark` meets its contract. The loop's invariant: the marks that are left to take away lead to the whole.
-- Assumes nothing.
use Rattle.std.specs.Prelude.{◌≡◌}
use Rattle.base_lists.specs.Kit.{drop}
use Rattle.graph.specs.Search.{far}
use Rattle.table.specs.Fill.{fill_at}
use Rattle.table_round.proofs.unmark.Given as goal

abbrev pub invariant-loop-node : goal.invariant-loop-node
invariant-loop-node l = fill_at (λ v. far) (drop l.node-index l.todo) l.marks ≡ fill_at (λ v. far) l.todo l.initial.marks
