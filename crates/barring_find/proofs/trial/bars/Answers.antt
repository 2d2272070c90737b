-- `barring_find::trial::bars` meets its contract: with the masks of the chosen links the centre is in no pair that is left exactly where they
-- bar. Assumes nothing.
use Rattle.std.specs.Prelude.{◌≤◌, ◌<◌}
use Rattle.base_lists.specs.Kit.{◌∙◌, sym, refl, subst, ℕ, length, length-take-le}
use Rattle.barring_find.proofs.Tried.{tried-starts, tried-ends, tried-long, tried-begun, tried-bars}
use Rattle.barring_find.proofs.trial.bars.Goals as goal
use Rattle.barring_find.proofs.trial.bars.Goals.{Start}

-- no more nodes than the tables of sets have room for
most : (s : Start) → length s.args.first.now ≤ 512
most s = subst (λ (n : ℕ). n ≤ 512) (sym (tried-long s.requires.some_tried.tried)) s.requires.some_tried.tried.most

pub chosen_masks-requires : goal.chosen_masks-requires
chosen_masks-requires c =
    record {
      starts_len = (c.requires.some_tried.tried.parts.parallel, c.requires.some_tried.tried.parts.links, c.requires.starts_len);
      below = (tried-starts c.requires.some_tried.tried, tried-ends c.requires.some_tried.tried);
      masks_len = refl;
    }

pub slice_bounds-sets-end : goal.slice_bounds-sets-end
slice_bounds-sets-end c = most (goal.at.slice_bounds-sets-end c).Start

pub slice_bounds-empty_at-end-2 : goal.slice_bounds-empty_at-end-2
slice_bounds-empty_at-end-2 c = sym (length-take-le _ _ (most (goal.at.slice_bounds-empty_at-end-2 c).Start))

pub slice_bounds-spare-end : goal.slice_bounds-spare-end
slice_bounds-spare-end c = most (goal.at.slice_bounds-spare-end c).Start

pub slice_bounds-empty_at-end-3 : goal.slice_bounds-empty_at-end-3
slice_bounds-empty_at-end-3 c = sym (length-take-le _ _ (most (goal.at.slice_bounds-empty_at-end-3 c).Start))

pub empty_at-requires : goal.empty_at-requires
empty_at-requires c =
    record {
      some_begun = record { pattern = _; board = _; begun = tried-begun c.requires.some_tried.tried _ c.chosen_masks.ensures };
      w_in_bounds = subst (λ (n : ℕ). c.args.w < n) (sym (tried-long c.requires.some_tried.tried)) c.requires.some_tried.tried.centre;
      sets_len = (length-take-le _ _ (most (goal.at.empty_at-requires c).Start), length-take-le _ _ (most (goal.at.empty_at-requires c).Start));
    }

pub returns : goal.returns
returns c =
    λ part_labels board r t.
    c.empty_at.ensures _ _ (tried-begun t _ c.chosen_masks.ensures) ∙ tried-bars t c.args.marks.now
