-- `base_lists::copy` meets its contract. The loop's invariant: the first entries are copied, and the others as they were. Assumes nothing.
use Rattle.std.specs.Prelude.{◌++◌, ◌≡◌}
use Rattle.base_lists.specs.Kit.{drop, take}
use Rattle.base_lists.proofs.copy.Given as goal

abbrev pub invariant-loop-i : goal.invariant-loop-i
invariant-loop-i g l = l.out ≡ take l.i l.part ++ drop l.i l.initial.out
