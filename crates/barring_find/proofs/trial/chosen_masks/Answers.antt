-- `barring_find::trial::chosen_masks` meets its contract: the chosen starts and ends stand at the front of two lists, and the masks are made of
-- these. Assumes nothing.
use Rattle.std.specs.Prelude.{◌≡◌, ◌≤◌}
use Rattle.base_lists.specs.Kit.{◌∙◌, sym, ap, subst, length, take, length-take-le}
use Rattle.base_lists.specs.List.{Below}
use Rattle.graph.specs.Chosen.{picked}
use Rattle.graph.proofs.Chosen.{picked-parallel, picked-below}
use Rattle.barring_find.proofs.Tried.{masked_same}
use Rattle.barring_find.proofs.trial.chosen_masks.Goals as goal
use Rattle.barring_find.proofs.trial.chosen_masks.Goals.{After-chosen_of-k, After-chosen_of-l}

room : (c : After-chosen_of-k) → c.chosen_of-k.result ≤ length c.chosen_of-k.new.out
room c = c.chosen_of-k.ensures.0

prefix : (c : After-chosen_of-k) → take c.chosen_of-k.result c.chosen_of-k.new.out ≡ picked c.args.marks.now c.args.starts.now
prefix c = c.chosen_of-k.ensures.1

room-2 : (c : After-chosen_of-l) → c.chosen_of-l.result ≤ length c.chosen_of-l.new.out
room-2 c = c.chosen_of-l.ensures.0

prefix-2 : (c : After-chosen_of-l) → take c.chosen_of-l.result c.chosen_of-l.new.out ≡ picked c.args.marks.now c.args.ends.now
prefix-2 c = c.chosen_of-l.ensures.1

pub slice_bounds-from-end : goal.slice_bounds-from-end
slice_bounds-from-end c = room (goal.at.slice_bounds-from-end c).After-chosen_of-k

pub slice_bounds-pattern_masks-end : goal.slice_bounds-pattern_masks-end
slice_bounds-pattern_masks-end c = sym (length-take-le _ _ (room (goal.at.slice_bounds-pattern_masks-end c).After-chosen_of-k))

pub slice_bounds-to-end : goal.slice_bounds-to-end
slice_bounds-to-end c = room-2 (goal.at.slice_bounds-to-end c).After-chosen_of-l

pub slice_bounds-pattern_masks-end-2 : goal.slice_bounds-pattern_masks-end-2
slice_bounds-pattern_masks-end-2 c = sym (length-take-le _ _ (room-2 (goal.at.slice_bounds-pattern_masks-end-2 c).After-chosen_of-l))

pub pattern_masks-requires : goal.pattern_masks-requires
pattern_masks-requires c =
    let from = prefix (goal.at.pattern_masks-requires c).After-chosen_of-k in
    let to = prefix-2 (goal.at.pattern_masks-requires c).After-chosen_of-l in
    record {
      starts_len = (
        ap length from ∙ picked-parallel c.args.marks.now _ _ c.requires.starts_len.0 ∙ sym (ap length to),
        subst (Below 32) (sym from) (picked-below c.args.marks.now 32 _ c.requires.below.0),
        subst (Below 32) (sym to) (picked-below c.args.marks.now 32 _ c.requires.below.1),
      );
      masks_len = c.requires.masks_len;
    }

pub returns : goal.returns
returns c = masked_same (prefix (goal.at.returns c).After-chosen_of-k) (prefix-2 (goal.at.returns c).After-chosen_of-l) c.pattern_masks.ensures
