-- `graph_radius::grow` meets its contract. The loop's invariant: the sets before u are the new ones, and the others as they were. Assumes nothing.
use Rattle.std.specs.Prelude.{◌≡◌, ◌++◌}
use Rattle.base_lists.specs.Kit.{get_or, drop}
use Rattle.base_bits.specs.Bits.{union_over}
use Rattle.base_lists.specs.List.{tabulate}
use Rattle.graph_radius.proofs.grow.Given as goal

abbrev pub invariant-loop-u : goal.invariant-loop-u
invariant-loop-u l = l.new ≡ tabulate l.u (λ i. union_over l.old (get_or l.near i 0)) ++ drop l.u l.initial.new
