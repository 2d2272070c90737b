-- `file_fields::store_labels` meets its contract. The loop's invariant: the labels of the nodes passed stand at the front. Assumes nothing.
use Rattle.std.specs.Prelude.{◌≡◌, ◌++◌}
use Rattle.base_lists.specs.Kit.{List, ℕ, get_or, drop}
use Rattle.base_lists.specs.List.{tabulate}
use Rattle.file_format.specs.Label.{label}
use Rattle.file_format.specs.Layout.{fields}
use Rattle.file_fields.proofs.store_labels.Given as goal

-- the label of a node, from the two stretches
unfoldable pub label_at : List ℕ → ℕ → List ℕ → ℕ → ℕ → ℕ
label_at kinds k packages p v = label (get_or (fields kinds k) v 0) (get_or (fields packages p) v 0)

abbrev pub invariant-loop-i : goal.invariant-loop-i
invariant-loop-i l = l.out ≡ tabulate l.i (label_at l.kinds l.k l.packages l.p) ++ drop l.i l.initial.out
