-- `table_strike::surviving` meets its contract. The loop's invariant: what is kept so far, with the survivors of the parts that are left,
-- is the survivors of the set. The measure is what is left, as a number. Assumes nothing.
use Rattle.std.specs.Prelude.{◌≡◌, ◌≤◌}
use lib.Bits.{bit_or}
use Rattle.table_strike.specs.Strike.{survivors}
use Rattle.table_strike.proofs.surviving.Given as goal

abbrev pub invariant-loop-left : goal.invariant-loop-left
invariant-loop-left l = (l.left ≤ l.set) × (bit_or l.kept (survivors l.succ l.pred l.f l.b l.left) ≡ survivors l.succ l.pred l.f l.b l.set)

abbrev pub decreases-loop-left : goal.decreases-loop-left
decreases-loop-left l = l.left
