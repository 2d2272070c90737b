-- `base_bits::union_of` meets its contract. The loop's invariant: the union so far, with the masks of the parts that are left, is the whole union,
-- and what is left is at most the set. The measure is what is left, as a number. Assumes nothing.
use Rattle.std.specs.Prelude.{◌≡◌, ◌≤◌}
use lib.Bits.{bit_or}
use Rattle.base_bits.specs.Bits.{union_over}
use Rattle.base_bits.proofs.union_of.Given as goal

abbrev pub invariant-loop-left : goal.invariant-loop-left
invariant-loop-left l = (l.left ≤ l.set) × (bit_or l.union (union_over l.masks l.left) ≡ union_over l.masks l.set)

abbrev pub decreases-loop-left : goal.decreases-loop-left
decreases-loop-left l = l.left
