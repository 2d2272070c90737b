-- `bounded_layer::pass::covered` meets its contract. The loop's invariant: what is kept so far, with what is kept of the parts that are left,
-- is what is kept of the set. The measure is what is left, as a number. Assumes nothing.
use Rattle.std.specs.Prelude.{◌≡◌, ◌≤◌}
use lib.Bits.{bit_or}
use Rattle.bounded_layer.specs.Pass.{kept_within}
use Rattle.bounded_layer.proofs.pass.covered.Given as goal

abbrev pub invariant-loop-left : goal.invariant-loop-left
invariant-loop-left l = (l.left ≤ l.set) × (bit_or l.kept (kept_within l.masks l.f l.left) ≡ kept_within l.masks l.f l.set)

abbrev pub decreases-loop-left : goal.decreases-loop-left
decreases-loop-left l = l.left
