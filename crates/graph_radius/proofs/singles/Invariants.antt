-- `graph_radius::singles` meets its contract. The loop's invariant: the sets before u are made, and the others as they were. Assumes nothing.
use Rattle.std.specs.Prelude.{◌≡◌, ◌++◌, ◌^◌}
use Rattle.base_lists.specs.Kit.{drop}
use Rattle.base_lists.specs.List.{tabulate}
use Rattle.graph_radius.proofs.singles.Given as goal

abbrev pub invariant-loop-u : goal.invariant-loop-u
invariant-loop-u l = l.sets ≡ tabulate l.u (λ i. 2 ^ i) ++ drop l.u l.initial.sets
