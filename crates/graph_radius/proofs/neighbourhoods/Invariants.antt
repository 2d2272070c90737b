-- `graph_radius::neighbourhoods` meets its contract. The loop's invariant: the sets are the balls at radius 1 along the links passed. Assumes nothing.
use Rattle.std.specs.Prelude.{◌≡◌}
use Rattle.base_lists.specs.Kit.{length, take}
use Rattle.graph_radius.specs.Balls.{balls}
use Rattle.graph_radius.proofs.neighbourhoods.Given as goal

abbrev pub invariant-loop-i : goal.invariant-loop-i
invariant-loop-i l = l.near ≡ balls (length l.initial.near) (take l.i l.starts) (take l.i l.ends) 1
