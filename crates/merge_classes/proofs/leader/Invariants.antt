-- `merge_classes::leader` meets its contract. The loop's invariant: the leader is the least of the parts that are left whose own set has
-- u. The measure is what is left, as a number. Assumes nothing.
use Rattle.std.specs.Prelude.{◌≡◌, ◌≤◌}
use Rattle.base_lists.specs.Kit.{length, get_or}
use Rattle.merge.specs.Merged.{leader}
use Rattle.merge_classes.proofs.Leaders.{leader_among}
use Rattle.merge_classes.proofs.leader.Given as goal

abbrev pub invariant-loop-left : goal.invariant-loop-left
invariant-loop-left l = (l.left ≤ get_or l.table l.u 0) × (leader_among l.table l.u l.left ≡ leader (length l.table) l.table l.u)

abbrev pub decreases-loop-left : goal.decreases-loop-left
decreases-loop-left l = l.left
