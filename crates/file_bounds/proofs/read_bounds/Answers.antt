-- `file_bounds::read_bounds` meets its contract: what is stored is what is tested. Assumes nothing.
use Rattle.base_lists.specs.Kit.{◌∙◌, sym, ap, length-take-le, arith}
use Rattle.file_format.proofs.Fields.{stored-prefix}
use Rattle.file_bounds.specs.Third.{bounds_fit}
use Rattle.file_bounds.proofs.read_bounds.Goals as goal

pub slice_bounds-all_within-end-2 : goal.slice_bounds-all_within-end-2
slice_bounds-all_within-end-2 c = sym (length-take-le _ _ (omega arith))

pub returns : goal.returns
returns c =
    let same = stored-prefix _ _ _ _ c.store_at.ensures in
    record {
      value = c.all_within.ensures ∙ ap bounds_fit same;
      bounds_after = same;
    }
