-- `graph_gather::count_from` meets its contract. The loop's invariant: so many of the first i nodes have the number.
-- Assumes nothing.
use Rattle.std.specs.Prelude.{◌≡◌}
use Rattle.base_lists.specs.Kit.{length, take}
use Rattle.graph_gather.specs.Having.{having, numbered}
use Rattle.graph_gather.proofs.count_from.Given as goal

abbrev pub invariant-loop-i : goal.invariant-loop-i
invariant-loop-i l = l.found ≡ length (having (numbered l.numbers l.x) (take l.i l.nodes))
