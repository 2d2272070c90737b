-- `file_fields::store` meets its contract. The loop's invariant: the fields passed stand at the front. Assumes nothing.
use Rattle.std.specs.Prelude.{◌≡◌, ◌++◌}
use Rattle.base_lists.specs.Kit.{drop}
use Rattle.file_format.specs.Layout.{fields}
use Rattle.file_fields.proofs.store.Given as goal

abbrev pub invariant-loop-i : goal.invariant-loop-i
invariant-loop-i l = l.out ≡ fields l.part l.i ++ drop l.i l.initial.out
