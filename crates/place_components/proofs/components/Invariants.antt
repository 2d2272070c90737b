-- `place_components::components` meets its contract. The loop's invariant: the nodes before f are named (`ComponentsBefore`). Assumes nothing.
use Rattle.base_lists.specs.Kit.{length}
use Rattle.table.specs.Prepared.{tables}
use Rattle.place.specs.Spread.{matched}
use Rattle.place_components.specs.Components.{ComponentsBefore}
use Rattle.place_components.proofs.components.Given as goal

abbrev pub invariant-loop-f : goal.invariant-loop-f
invariant-loop-f l =
    ComponentsBefore (length l.sets) (matched (tables l.masks l.offsets l.targets) l.sets) l.sets l.f l.component_of l.sizes
