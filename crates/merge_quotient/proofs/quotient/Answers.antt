-- `merge_quotient::quotient` meets its contract: its two tables have room for every pattern. Assumes nothing.
use Rattle.base_lists.specs.Kit.{sym, refl, length-take-le}
use Rattle.graph.specs.Circuit.{circuit}
use Rattle.merge.proofs.Content.{PatternContent, most-parts}
use Rattle.merge_quotient.proofs.Passes.{sound-content}
use Rattle.merge_quotient.proofs.quotient.Goals as goal
use Rattle.merge_quotient.proofs.quotient.Goals.{Start}

content : (c : Start) → PatternContent (circuit c.args.labels.now c.args.starts.now c.args.ends.now)
content c = sound-content _ _ _ c.requires.ends_value

pub slice_bounds-table-end : goal.slice_bounds-table-end
slice_bounds-table-end c = most-parts (content (goal.at.slice_bounds-table-end c).Start)

pub slice_bounds-through-end : goal.slice_bounds-through-end
slice_bounds-through-end c = sym (length-take-le _ _ (most-parts (content (goal.at.slice_bounds-through-end c).Start)))

pub through-requires : goal.through-requires
through-requires c =
    record {
      ends_value = c.requires.ends_value;
      classes_len = (c.requires.classes_len, length-take-le _ _ (most-parts (content (goal.at.through-requires c).Start)), refl);
      in_bounds = c.requires.in_bounds;
    }
