-- `barring_find::least_in_ball` meets its contract: all links are tried together, and where they bar the kept ones are found and counted. Assumes
-- nothing.
use Rattle.std.specs.Prelude.{◌≡◌, ◌++◌}
use Rattle.base_lists.specs.Kit.{◌∙◌, sym, ap, List, ℕ, length, drop, length-take-le, take_at}
use Rattle.base_lists.proofs.Parts.{length-take-append}
use Rattle.barring.specs.Least.{kept_count}
use Rattle.barring.proofs.Outcome.{around-placed, around-kept}
use Rattle.barring_find.proofs.Around.{is-placed, is_none}
use Rattle.barring_find.proofs.least_in_ball.Goals as goal
use Rattle.barring_find.proofs.least_in_ball.Goals.{After-drop_links}

pub slice_bounds-bars-end : goal.slice_bounds-bars-end
slice_bounds-bars-end c = sym (length-take-le _ _ c.requires.some_tried.tried.parts.links)

pub bars-requires : goal.bars-requires
bars-requires c = record {
  some_tried = c.requires.some_tried;
  starts_len = sym (length-take-le _ _ c.requires.some_tried.tried.parts.links);
}

pub returns-then-not-bars : goal.returns-then-not-bars
returns-then-not-bars c =
    λ part_labels board r t.
    around-placed _ board _ r _
    (is-placed _ board t.parts.parallel t.parts.links _ r (c.bars.ensures part_labels board r t) (c.if-not-bars.true))

-- there are as many bytes as links
long : (c : After-drop_links) → length c.drop_links.new.marks ≡ length c.args.starts.now
long c = c.drop_links.auto.marks ∙ length-take-le _ _ c.requires.starts_in_bounds

-- what stands past them is as it was
kept-after : {marks least : List ℕ} {m : ℕ} (out : List ℕ) → length marks ≡ m → marks ≡ least → marks ++ drop m out ≡ least ++ drop (length least) out
kept-after {marks} {least} out l e = ap (λ (n : ℕ). marks ++ drop n out) (sym l ∙ ap length e) ∙ ap (λ (xs : List ℕ). xs ++ drop (length least) out) e

pub slice_bounds-drop_links-end-2 : goal.slice_bounds-drop_links-end-2
slice_bounds-drop_links-end-2 c = sym (length-take-le _ _ c.requires.starts_in_bounds)

pub drop_links-requires : goal.drop_links-requires
drop_links-requires c = record {
  some_tried = c.requires.some_tried;
  starts_len = sym (length-take-le _ _ c.requires.starts_in_bounds);
}

pub slice_bounds-count-end-2 : goal.slice_bounds-count-end-2
slice_bounds-count-end-2 c = length-take-append _ c.drop_links.new.marks _ (long (goal.at.slice_bounds-count-end-2 c).After-drop_links)

pub returns : goal.returns
unfolding kept_count
returns c =
    let l = long (goal.at.returns c).After-drop_links in
    λ part_labels board r t.
    let kept = c.drop_links.ensures part_labels board r t in
    around-kept _ board _ r _
    (is_none _ board t.parts.parallel t.parts.links _ r (c.bars.ensures part_labels board r t) (c.if-not-bars.false))
    (c.count.ensures ∙ ap kept_count (take_at _ _ _ l ∙ kept))
    (kept-after c.args.out.now l kept)
