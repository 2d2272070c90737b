-- `merge_classes::leader_labels` meets its contract. The loop's invariant: the kinds of those parts before u that lead their class are
-- stored, and `next` is how many they are. Assumes nothing.
use Rattle.std.specs.Prelude.{◌≡◌}
use Rattle.base_lists.specs.Kit.{length, sets}
use Rattle.base_lists.specs.Below.{count_below}
use Rattle.merge.specs.Merged.{is_leader}
use Rattle.merge_classes.proofs.Numbering.{kinds_before}
use Rattle.merge_classes.proofs.leader_labels.Given as goal

abbrev pub invariant-loop-u : goal.invariant-loop-u
invariant-loop-u l =
    (l.next ≡ count_below l.u (is_leader (length l.table) l.table))
    × (l.out ≡ sets l.initial.out 0 (kinds_before l.table l.labels l.u))
