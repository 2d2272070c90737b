-- `table::rule::occurring` meets its contract. The loop's invariant: the union so far, with the sets that are left, is the whole union.
-- Assumes nothing.
use Rattle.std.specs.Prelude.{◌≡◌}
use Rattle.base_lists.specs.Kit.{drop}
use lib.Bits.{bit_or}
use Rattle.table.specs.Union.{union_all}
use Rattle.table.proofs.rule.occurring.Given as goal

abbrev pub invariant-loop-set : goal.invariant-loop-set
invariant-loop-set l = bit_or l.union (union_all (drop l.set-index l.table)) ≡ union_all l.table
