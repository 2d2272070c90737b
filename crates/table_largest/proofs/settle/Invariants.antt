-- `table_largest::settle` meets its contract. The loop's invariant: `table` is the table after `rounds` rounds, each of which struck a pair; the
-- nodes that change are listed, each with its next set; and nothing is marked. The measure is how many pairs there are, which falls with each
-- round. Assumes nothing.
use Rattle.std.specs.Prelude.{◌≡◌}
use Rattle.base_lists.specs.Kit.{length, replicate}
use Rattle.graph.specs.Search.{far}
use Rattle.table.specs.Prepared.{tables}
use Rattle.table_largest.specs.Rounds.{Round}
use Rattle.table_largest.proofs.Rounds.{Noticed}
use Rattle.table_largest.proofs.settle.Given as goal

abbrev pub invariant-loop-n : goal.invariant-loop-n
invariant-loop-n l =
    Round (tables l.masks l.offsets l.targets) l.initial.table l.table l.kept l.rounds
    × Noticed (tables l.masks l.offsets l.targets) l.table l.changed l.new l.n
    × (l.marks ≡ replicate (length l.initial.table) far)

abbrev pub decreases-loop-n : goal.decreases-loop-n
decreases-loop-n l = l.kept
