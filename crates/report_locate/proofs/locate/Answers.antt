-- `report_locate::locate` meets its contract: the place is the component where the ball holds it; else the whole board's sets at those of its nodes that the
-- ball has are a table to begin with. Assumes nothing.
use Rattle.std.specs.Prelude.{◌≡◌, ◌++◌, ◌≤◌}
use Rattle.base_lists.specs.Kit.{◌∙◌, sym, ap, List, append-nil, ℕ, length, take, drop, drop_of_length-le, length-take-le, arith}
use Rattle.graph.specs.Circuit.{Circuit}
use Rattle.table.specs.Fill.{NodeList}
use Rattle.table.specs.Prepared.{tables}
use Rattle.place.specs.Find.{Sought}
use Rattle.place.proofs.Find.{found-located}
use Rattle.place_components.proofs.ComponentNumbers.{match-adjacency, marked-spread}
use Rattle.report_locate.specs.Source.{Source, Entire}
use Rattle.report_locate.proofs.Centre.{source-long, source-few}
use Rattle.report_locate.proofs.Component.{source-match, held_found, held-located, cut-sought}
use Rattle.report_locate.proofs.locate.Goals as goal
use Rattle.report_locate.proofs.locate.Goals.{After-copy-started, Else-ball, Then-ball}

pub slice_bounds-mark-end : goal.slice_bounds-mark-end
slice_bounds-mark-end c = c.requires.ball_holds.short

pub slice_bounds-mark-end-then-ball : goal.slice_bounds-mark-end-then-ball
slice_bounds-mark-end-then-ball c = sym (length-take-le _ _ c.requires.ball_holds.short)

-- the component's nodes are listed
entire : (c : Then-ball) → Entire (tables c.args.masks.now c.args.offsets.now c.args.targets.now) c.args.whole.now c.args.around (take c.args.ball.kept c.args.queue.now)
entire c = c.requires.ball_holds.whole c.if-ball.true

pub mark-requires : goal.mark-requires
mark-requires c =
    let e = entire (goal.at.mark-requires c).Then-ball in
    rw (c.requires.dist_len.0 ∙ sym e.spread.size) e.lists.list.below

pub copy-requires : goal.copy-requires
copy-requires c = omega (arith, c.requires.dist_len.2)

-- a table that is as long as the sets is the sets, once they are copied
whole : (xs ys : List ℕ) → length ys ≡ length xs → xs ++ drop (length xs) ys ≡ xs
whole xs ys l =
    let none : length ys ≤ length xs = omega (arith, l) in
    ap (λ (ns : List ℕ). xs ++ ns) (drop_of_length-le ys none) ∙ append-nil xs

pub returns-then-ball : goal.returns-then-ball
returns-then-ball c =
    let e = entire (goal.at.returns-then-ball c).Then-ball in
    let sets = c.copy.ensures ∙ whole _ _ c.requires.dist_len.2 in
    let marks = rw c.requires.dist_len.0 at c.mark.ensures in
    let (spread, lists) = rw (sym marks) at (marked-spread c.requires.centre_in_bounds.0 (match-adjacency (source-match c.requires.source_of_some.source)).inside e.spread e.lists) in
    λ pattern board s.
    let held = e.held pattern board s _ spread in
    record {
      answer = sym (held_found s _ c.requires.centre_in_bounds.0 spread c.requires.centre_in_bounds.1 held);
      nodes = take c.args.ball.kept c.args.queue.now;
      there = λ _. rw sets (held-located s _ c.requires.centre_in_bounds.0 spread c.requires.centre_in_bounds.1 held _ lists);
    }

-- the scratch table has room for the board
few : (c : Else-ball) → length c.args.whole.now ≤ 512
few c = source-few c.requires.source_of_some.source

pub slice_bounds-other-end : goal.slice_bounds-other-end
slice_bounds-other-end c = few (goal.at.slice_bounds-other-end c).Else-ball

pub slice_bounds-spare-end : goal.slice_bounds-spare-end
slice_bounds-spare-end c = sym (length-take-le _ _ (few (goal.at.slice_bounds-spare-end c).Else-ball))

short : (c : Else-ball) → c.args.ball.kept ≤ length c.args.queue.now
short c = c.requires.ball_holds.short

pub slice_bounds-copy-end : goal.slice_bounds-copy-end
slice_bounds-copy-end c = short (goal.at.slice_bounds-copy-end c).Else-ball

pub slice_bounds-copy-end-2 : goal.slice_bounds-copy-end-2
slice_bounds-copy-end-2 c = sym (length-take-le _ _ (short (goal.at.slice_bounds-copy-end-2 c).Else-ball))

list : (c : Else-ball) → NodeList (length c.args.whole.now) (take c.args.ball.kept c.args.queue.now)
list c = rw (source-long c.requires.source_of_some.source) (c.requires.ball_holds.cut c.if-ball.false _ _ c.requires.source_of_some.source).list

pub copy-started-requires : goal.copy-started-requires
copy-started-requires c =
    record {
      node_list = rw c.requires.dist_len.2 (list (goal.at.copy-started-requires c).Else-ball);
      below = (list (goal.at.copy-started-requires c).Else-ball).below;
    }

-- it is one to begin with, of every pattern and board
sought : (c : After-copy-started) → (pattern board : Circuit) → Source pattern board (tables c.args.masks.now c.args.offsets.now c.args.targets.now) c.args.whole.now c.args.around.radius
    → Sought pattern board (tables c.args.masks.now c.args.offsets.now c.args.targets.now) c.args.around.centre c.args.around.radius
    (take c.args.ball.kept c.args.queue.now) c.copy-started.new.table
sought c pattern board s =
    cut-sought s (c.requires.ball_holds.cut c.if-ball.false pattern board s) c.requires.centre_in_bounds.0 c.requires.dist_len.2 c.copy-started.ensures

pub find-place-requires : goal.find-place-requires
find-place-requires c =
    let (d, q, s) = c.requires.dist_len in
    let long = c.copy-started.auto.table ∙ s in record {
      k_in_bounds = (short (goal.at.find-place-requires c).Else-ball, record { pattern = _; board = _; radius = _; sought = sought (goal.at.find-place-requires c).After-copy-started _ _ c.requires.source_of_some.source });
      started_value = c.copy-started.ensures.size;
      dist_len = (d ∙ sym long, q ∙ sym long, length-take-le _ _ (few (goal.at.find-place-requires c).Else-ball) ∙ sym long);
    }

pub returns : goal.returns
returns c pattern board s =
    let place = c.find-place.ensures pattern board _ (sought (goal.at.returns c).After-copy-started pattern board s) in
    let (list, there) = found-located place in
    record { answer = c.is_some.ensures ∙ place.answer; nodes = list; there = λ e. there (sym c.is_some.ensures ∙ e) }
