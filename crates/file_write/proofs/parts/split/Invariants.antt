-- `file_write::parts::split` meets its contract. The loop's invariant: the kinds and the packages of the labels passed stand at the front. Assumes
-- nothing.
use Rattle.std.specs.Prelude.{◌≡◌, ◌++◌}
use Rattle.base_lists.specs.Kit.{get_or, drop}
use Rattle.base_lists.specs.List.{tabulate}
use Rattle.file_format.specs.Label.{kind_in, package_in}
use Rattle.file_write.proofs.parts.split.Given as goal

abbrev pub invariant-loop-i : goal.invariant-loop-i
invariant-loop-i l =
    (l.kinds ≡ tabulate l.i (λ v. kind_in (get_or l.labels v 0)) ++ drop l.i l.initial.kinds)
    × (l.packages ≡ tabulate l.i (λ v. package_in (get_or l.labels v 0)) ++ drop l.i l.initial.packages)
