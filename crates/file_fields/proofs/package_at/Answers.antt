-- `file_fields::package_at` meets its contract: there is no such field, or it is the i-th. Assumes nothing.
use Rattle.std.specs.Prelude.{◌≤◌}
use Rattle.base_lists.specs.Kit.{◌∙◌, sym, length, get_or-eq_default, arith}
use Rattle.file_format.specs.Layout.{fields}
use Rattle.file_format.proofs.Fields.{length_fields, get_or-fields}
use Rattle.file_fields.proofs.package_at.Goals as goal

pub returns-then-p-i : goal.returns-then-p-i
returns-then-p-i c =
    let past : length (fields c.args.part.now c.args.p) ≤ c.args.i = omega (arith, length_fields c.args.part.now c.args.p) in
    (sym (get_or-eq_default (fields c.args.part.now c.args.p) 0 past), omega arith)

pub returns : goal.returns
returns c =
    (c.field_at.ensures ∙ sym (get_or-fields c.args.part.now c.args.p c.args.i (omega arith)), omega arith)
