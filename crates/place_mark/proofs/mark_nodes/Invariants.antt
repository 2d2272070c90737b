-- `place_mark::mark_nodes` meets its contract. The loop's invariant: writing at the nodes that are left leads to the table with all of them. Assumes nothing.
use Rattle.std.specs.Prelude.{◌≡◌}
use Rattle.base_lists.specs.Kit.{drop}
use Rattle.table.specs.Fill.{fill_at}
use Rattle.place_mark.proofs.mark_nodes.Given as goal

abbrev pub invariant-loop-v : goal.invariant-loop-v
invariant-loop-v l =
    fill_at (λ v. 1) (drop l.v-index l.list) l.nodes ≡ fill_at (λ v. 1) l.list l.initial.nodes
