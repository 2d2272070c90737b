-- `graph_gather::keep` meets its contract. The loop's invariant: of the first i nodes those with the number stand in front, and the nodes from the
-- i-th on stand where they stood. Assumes nothing.
use Rattle.std.specs.Prelude.{◌≡◌, ◌≤◌}
use Rattle.base_lists.specs.Kit.{ℕ, get_or, take}
use Rattle.graph_gather.specs.Having.{having, numbered}
use Rattle.graph_gather.proofs.keep.Given as goal

abbrev pub invariant-loop-i : goal.invariant-loop-i
invariant-loop-i l =
    (l.kept ≤ l.i)
    × (take l.kept l.queue ≡ having (numbered l.numbers l.x) (take l.i l.initial.queue))
    × ((j : ℕ) → l.i ≤ j → get_or l.queue j 0 ≡ get_or l.initial.queue j 0)
