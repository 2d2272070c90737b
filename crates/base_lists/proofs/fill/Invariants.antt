-- `base_lists::fill` meets its contract. The loop's invariant: the entries passed are x, and the others as they were. Assumes nothing.
use Rattle.std.specs.Prelude.{◌++◌, ◌≡◌}
use Rattle.base_lists.specs.Kit.{drop, replicate}
use Rattle.base_lists.proofs.fill.Given as goal

abbrev pub invariant-loop-entry : goal.invariant-loop-entry
invariant-loop-entry g l = l.s ≡ replicate l.entry-index l.x ++ drop l.entry-index l.initial.s
