-- `base_bits::union_at` meets its contract. The loop's invariant: the union so far, with the sets of the numbers that are left, is the whole
-- union. Assumes nothing.
use Rattle.std.specs.Prelude.{◌≡◌}
use Rattle.base_lists.specs.Kit.{drop}
use lib.Bits.{bit_or}
use Rattle.base_bits.specs.Bits.{union_at}
use Rattle.base_bits.proofs.union_at.Given as goal

abbrev pub invariant-loop-w : goal.invariant-loop-w
invariant-loop-w l = bit_or l.union (union_at l.sets (drop l.w-index l.numbers)) ≡ union_at l.sets l.numbers
