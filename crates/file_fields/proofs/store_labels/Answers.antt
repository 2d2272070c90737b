-- `file_fields::store_labels` meets its contract. The loop's invariant: the labels of the nodes passed stand at the front. Assumes nothing.
use Rattle.std.specs.Prelude.{◌≡◌, ◌++◌, ◌<◌, ◌+◌, ◌*◌}
use Rattle.base_lists.specs.Kit.{◌∙◌, sym, subst, ap₂, List, ℕ, get_or, drop, arith}
use Rattle.base_lists.specs.List.{tabulate}
use Rattle.base_lists.proofs.Tables.{filled_none, filled_more}
use Rattle.file_format.proofs.Fields.{length_fields, get_or-fields}
use Rattle.file_format.specs.Label.{label, labels}
use Rattle.file_format.specs.Layout.{field, fields}
use Rattle.file_fields.proofs.store_labels.Invariants.{label_at}
use Rattle.file_fields.proofs.store_labels.Goals as goal

-- as the code makes it
label-made : (kinds : List ℕ) (k : ℕ) (packages : List ℕ) (p v kind pack : ℕ) → v < k → kind ≡ field kinds (2 * v) → pack ≡ get_or (fields packages p) v 0
    → kind + 65536 * pack ≡ label_at kinds k packages p v
unfolding label_at label
label-made kinds k packages p v kind pack h e f = ap₂ (λ (a b : ℕ). a + 65536 * b) (e ∙ sym (get_or-fields kinds k v h)) f

label-stored : (kinds : List ℕ) (k : ℕ) (packages : List ℕ) (p : ℕ) (old : List ℕ)
    → tabulate k (label_at kinds k packages p) ++ drop k old ≡ labels (fields kinds k) (fields packages p) ++ drop k old
unfolding labels label_at
label-stored kinds k packages p old = rw length_fields

pub loop-i-init : goal.loop-i-init
loop-i-init c = filled_none _ _

pub loop-i-preserved : goal.loop-i-preserved
loop-i-preserved c =
    let made = label-made c.args.kinds.now c.args.k c.args.packages.now c.args.p c.loop-i.i _ _ (omega arith) c.field_at-kind.ensures c.package_at.ensures.0 in
    rw (c.loop-i.invariant, made) (filled_more _ _ _ (omega arith))

pub returns : goal.returns
returns c =
    let done : c.loop-i.i ≡ c.args.k = omega arith in
    subst (λ (i : ℕ). c.loop-i.out ≡ tabulate i (label_at c.args.kinds.now c.args.k c.args.packages.now c.args.p) ++ drop i c.args.out.now) done c.loop-i.invariant
    ∙ label-stored c.args.kinds.now c.args.k c.args.packages.now c.args.p c.args.out.now
