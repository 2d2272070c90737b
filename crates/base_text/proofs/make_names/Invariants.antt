-- `base_text::make_names` meets its contract. The loop's invariant: the entries before x are names, and the others as they were. The measure is
-- how many are left. Assumes nothing.
use Rattle.std.specs.Prelude.{◌≡◌, ◌++◌}
use Rattle.base_lists.specs.Kit.{drop}
use Rattle.base_lists.specs.List.{tabulate}
use Rattle.base_text.specs.Text.{digits_number}
use Rattle.base_text.proofs.make_names.Given as goal

abbrev pub invariant-loop-x : goal.invariant-loop-x
invariant-loop-x l = l.names ≡ tabulate l.x digits_number ++ drop l.x l.initial.names
