-- `merge_classes::number_classes` meets its contract. The loop's invariant: the parts before u have their classes, and `next` is the
-- number of classes that they lead. Assumes nothing.
use Rattle.std.specs.Prelude.{◌≡◌}
use Rattle.base_lists.specs.Kit.{length}
use Rattle.base_lists.specs.Below.{count_below}
use Rattle.merge.specs.Merged.{is_leader}
use Rattle.merge_classes.proofs.Numbering.{numbered}
use Rattle.merge_classes.proofs.number_classes.Given as goal

abbrev pub invariant-loop-u : goal.invariant-loop-u
invariant-loop-u l =
    (l.next ≡ count_below l.u (is_leader (length l.table) l.table))
    × (l.classes ≡ numbered l.table l.u l.initial.classes)
