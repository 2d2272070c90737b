-- `barring_find::trial::chosen_of` meets its contract: the entries are copied, and of the copy the marked ones are moved to the front. Assumes
-- nothing.
use Rattle.std.specs.Prelude.{◌≡◌, ◌≤◌}
use Rattle.base_lists.specs.Kit.{◌∙◌, sym, ap, length, take, length-take-le, take_at, take-append-le, arith}
use Rattle.base_lists.proofs.Parts.{length-append-le}
use Rattle.graph.specs.Chosen.{picked}
use Rattle.barring_find.proofs.trial.chosen_of.Goals as goal
use Rattle.barring_find.proofs.trial.chosen_of.Goals.{After-copy}

room : (c : After-copy) → length c.args.marks.now ≤ length c.copy.new.out
room c = omega (arith, c.copy.auto.out, c.requires.0, c.requires.1)

prefix : (c : After-copy) → take (length c.args.marks.now) c.copy.new.out ≡ c.args.xs.now
prefix c = ap (take (length c.args.marks.now)) c.copy.ensures ∙ take_at c.args.xs.now _ _ c.requires.0

-- ---- of which the marked ones are moved to the front
pub slice_bounds-choose-end-2 : goal.slice_bounds-choose-end-2
slice_bounds-choose-end-2 c = sym (length-take-le _ _ (room (goal.at.slice_bounds-choose-end-2 c).After-copy))

pub choose-requires : goal.choose-requires
choose-requires c = sym (length-take-le _ _ (room (goal.at.choose-requires c).After-copy))

pub returns : goal.returns
returns c =
    (length-append-le c.choose.result c.choose.new.xs _ c.choose.ensures.0, take-append-le c.choose.result c.choose.new.xs _ c.choose.ensures.0 ∙ c.choose.ensures.1 ∙ ap (picked c.args.marks.now) (prefix (goal.at.returns c).After-copy))
