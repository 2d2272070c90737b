-- `bounded_prepare::bound_masks` meets its contract: the two halves of the masks. Assumes nothing.
use Rattle.std.specs.Prelude.{◌≡◌}
use Rattle.base_lists.specs.Kit.{◌∙◌, sym, length, length-take-le}
use Rattle.bounded_prepare.proofs.Halves.{bound-masked, half, half-2}
use Rattle.bounded_prepare.proofs.bound_masks.Goals as goal
use Rattle.bounded_prepare.proofs.bound_masks.Goals.{After-way_masks}

pub slice_bounds-way_masks-end : goal.slice_bounds-way_masks-end
slice_bounds-way_masks-end c = sym (length-take-le _ _ c.requires.bounds_len.2)

pub slice_bounds-way_masks-end-3 : goal.slice_bounds-way_masks-end-3
slice_bounds-way_masks-end-3 c = sym (half c.args.masks.now c.requires.bounds_len.3)

pub way_masks-requires : goal.way_masks-requires
way_masks-requires c =
    record {
      in_bounds = (c.requires.in_bounds.0, c.requires.in_bounds.1, c.requires.in_bounds.2);
      bounds_len = (c.requires.bounds_len.0, length-take-le _ _ c.requires.bounds_len.2, c.requires.bounds_len.1, half c.args.masks.now c.requires.bounds_len.3);
    }

pub slice_bounds-way_masks-end-4 : goal.slice_bounds-way_masks-end-4
slice_bounds-way_masks-end-4 c = sym (length-take-le _ _ c.requires.bounds_len.2)

first-half : (w : After-way_masks) → length w.way_masks.new.masks ≡ 128
first-half w = w.way_masks.auto.masks ∙ half w.args.masks.now w.requires.bounds_len.3

pub way_masks-requires-2 : goal.way_masks-requires-2
way_masks-requires-2 c =
    record {
      in_bounds = (c.requires.in_bounds.0, c.requires.in_bounds.2, c.requires.in_bounds.1);
      bounds_len = (
        c.requires.bounds_len.0 ∙ c.requires.bounds_len.1,
        length-take-le _ _ c.requires.bounds_len.2 ∙ c.requires.bounds_len.1,
        sym c.requires.bounds_len.1,
        half-2 c.way_masks.new.masks c.args.masks.now (first-half (goal.at.way_masks-requires-2 c).After-way_masks) c.requires.bounds_len.3,
      );
    }

pub returns : goal.returns
returns c =
    bound-masked c.args.bounds.now c.args.starts.now c.args.ends.now c.args.masks.now c.requires.bounds_len.3 c.way_masks.ensures
    c.way_masks-2.ensures
