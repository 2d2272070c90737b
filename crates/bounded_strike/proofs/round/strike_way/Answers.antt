-- `bounded_strike::round::strike_way` meets its contract: each call makes one bound more, over the layer that reaches one link further.
-- Assumes nothing.
use Rattle.std.specs.Prelude.{◌≡◌, ◌≤◌, ◌+◌}
use Rattle.base_lists.specs.Kit.{◌∙◌, refl, List, ℕ, length, take, drop, length-drop, length-take-le, arith}
use Rattle.base_lists.specs.List.{part}
use Rattle.bounded_strike.proofs.Ways.{one-passed, two-passed, three-passed, four-passed}
use Rattle.bounded_strike.proofs.round.strike_way.Goals as goal

-- the masks of one bound
bound-masks : (masks : List ℕ) → length masks ≡ 128 → (at : ℕ) → at + 32 ≤ 128 → length (take 32 (drop at masks)) ≡ 32
bound-masks masks e at h = length-take-le 32 (drop at masks) (omega (arith, length-drop at masks, e))

pub returns-then-top-lt2 : goal.returns-then-top-lt2
unfolding part
returns-then-top-lt2 c =
    let e : c.args.top ≡ 1 = omega (arith, c.requires.masks_len.2) in
    rw e (one-passed _ c.args.masks.now _ _ c.pass_asked.ensures)

pub further-requires : goal.further-requires
further-requires c =
    record {
      net = c.requires.masks_len.1;
      masks_len = (bound-masks _ c.requires.masks_len.0 32 (omega arith), refl, c.requires.layer_len.0, c.pass_asked.auto.new ∙ c.requires.layer_len.2);
    }

pub returns-then-top-lt3 : goal.returns-then-top-lt3
unfolding part
returns-then-top-lt3 c =
    let e : c.args.top ≡ 2 = omega arith in
    rw e (two-passed _ c.args.masks.now _ _ c.pass_asked.ensures c.further.ensures.next_after c.further.ensures.after)

pub further-requires-2 : goal.further-requires-2
further-requires-2 c =
    record {
      net = c.requires.masks_len.1;
      masks_len = (bound-masks _ c.requires.masks_len.0 64 (omega arith), c.further.auto.next ∙ c.requires.layer_len.0, c.requires.layer_len.1, c.further.auto.new ∙ c.pass_asked.auto.new ∙ c.requires.layer_len.2);
    }

pub returns-then-top-lt4 : goal.returns-then-top-lt4
unfolding part
returns-then-top-lt4 c =
    let e : c.args.top ≡ 3 = omega arith in
    rw e
    (three-passed _ c.args.masks.now _ _ c.pass_asked.ensures c.further.ensures.next_after c.further.ensures.after c.further-2.ensures.next_after
    c.further-2.ensures.after)

pub slice_bounds-further-end-3 : goal.slice_bounds-further-end-3
slice_bounds-further-end-3 c = omega (arith, c.requires.masks_len.0)

pub further-requires-3 : goal.further-requires-3
further-requires-3 c =
    record {
      net = c.requires.masks_len.1;
      masks_len = (bound-masks _ c.requires.masks_len.0 96 (omega arith), c.further-2.auto.next ∙ c.requires.layer_len.1, c.further.auto.next ∙ c.requires.layer_len.0, c.further-2.auto.new ∙ c.further.auto.new ∙ c.pass_asked.auto.new ∙ c.requires.layer_len.2);
    }

pub shape_of-new : goal.shape_of-new
shape_of-new c = c.further-3.auto.new ∙ c.further-2.auto.new ∙ c.further.auto.new ∙ c.pass_asked.auto.new

pub returns : goal.returns
unfolding part
returns c =
    let e : c.args.top ≡ 4 = omega (arith, c.requires.masks_len.3) in
    rw e
    (four-passed _ c.args.masks.now _ _ c.pass_asked.ensures c.further.ensures.next_after c.further.ensures.after c.further-2.ensures.next_after
    c.further-2.ensures.after c.further-3.ensures.next_after c.further-3.ensures.after)
