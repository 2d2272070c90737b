-- `place_components::store_each` meets its contract. The loop's invariant: the entries that are left to set lead to the whole. Assumes nothing.
use Rattle.std.specs.Prelude.{◌≡◌}
use Rattle.base_lists.specs.Kit.{drop}
use Rattle.table.specs.Fill.{fill_at}
use Rattle.place_components.proofs.store_each.Given as goal

abbrev pub invariant-loop-v : goal.invariant-loop-v
invariant-loop-v l = fill_at (λ v. l.x) (drop l.v-index l.nodes) l.table ≡ fill_at (λ v. l.x) l.nodes l.initial.table
