-- `place_components::store_each` meets its contract. Assumes nothing.
use Rattle.std.specs.Prelude.{◌≡◌, ◌<◌, ◌+◌}
use Rattle.base_lists.specs.Kit.{◌∙◌, refl, List, ℕ, add-one, length, get_or, drop, set, drop_of_length-le, drop-cons}
use Rattle.base_lists.specs.List.{Below}
use Rattle.table.specs.Fill.{fill_at}
use Rattle.place_components.proofs.store_each.Goals as goal

pub loop-v-init : goal.loop-v-init
loop-v-init c = refl

fill-next : (x : ℕ) (nodes componentOf : List ℕ) (i : ℕ) → i < length nodes →
    fill_at (λ v. x) (drop (i + 1) nodes) (set componentOf (get_or nodes i 0) x) ≡ fill_at (λ v. x) (drop i nodes) componentOf
unfolding fill_at
fill-next x nodes componentOf i h = rw (add-one, drop-cons nodes i 0)

pub bounds-table-v : goal.bounds-table-v
unfolding Below
bounds-table-v c = rw c.loop-v.auto.table (c.requires c.loop-v.v-index c.loop-v-test.true)

pub loop-v-preserved : goal.loop-v-preserved
loop-v-preserved c = fill-next _ c.args.nodes.now c.loop-v.table c.loop-v.v-index c.loop-v-test.true ∙ c.loop-v.invariant

pub returns : goal.returns
unfolding fill_at
returns c = rw (drop_of_length-le c.args.nodes.now c.loop-v-test.false) at c.loop-v.invariant
