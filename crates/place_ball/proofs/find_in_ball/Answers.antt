-- `place_ball::find_in_ball` meets its contract: the nodes that the search lists are the ball, and the pairs of
-- equal kinds in it are a first table. What the search finds are the ball's distances, and no other search writes over
-- them. Assumes nothing.
use Rattle.std.specs.Prelude.{◌≤◌}
use Rattle.base_lists.specs.Kit.{◌∙◌, sym, ap, List, ℕ, length, take, length-take-le, arith}
use Rattle.graph.specs.Bfs.{bfs, adjacent, Found}
use Rattle.graph.specs.Circuit.{circuit}
use Rattle.graph.proofs.Net.{net-few}
use Rattle.table.specs.Prepared.{tables}
use Rattle.table.specs.Refine.{counts_of}
use Rattle.table.specs.Row.{both_directions}
use Rattle.table.proofs.Begun.{started-begins, kept-first, refined}
use Rattle.place.specs.Find.{Tabled, Sought}
use Rattle.place.proofs.Find.{tabled-net, ball-short, ball-list, ball-marks, ball-measured, ball-sought}
use Rattle.place_ball.proofs.find_in_ball.Goals as goal
use Rattle.place_ball.proofs.find_in_ball.Goals.{After-search-k, After-start-p, Start}

-- the search for the component has a table of its own, with room for every board
few : (s : Start) → length s.args.node_labels.now ≤ 512
few s = net-few (tabled-net s.requires.some_tabled.tabled)

pub slice_bounds-joined-end : goal.slice_bounds-joined-end
slice_bounds-joined-end c = few (goal.at.slice_bounds-joined-end c).Start

pub slice_bounds-apart-end : goal.slice_bounds-apart-end
slice_bounds-apart-end c = sym (length-take-le _ _ (few (goal.at.slice_bounds-apart-end c).Start))

pub search-k-requires : goal.search-k-requires
search-k-requires c =
    record {
      net = rw c.requires.dist_len.0 (tabled-net c.requires.some_tabled.tabled);
      c_in_bounds = rw c.requires.dist_len.0 c.requires.centre_in_bounds;
      dist_len = c.requires.dist_len.0 ∙ sym c.requires.dist_len.1;
    }

-- no more nodes are listed than the queue has room for
short : (c : After-search-k) → c.search-k.result ≤ length c.search-k.new.queue
short c =
    rw (c.search-k.auto.queue, c.requires.dist_len.1)
    (ball-short c.requires.some_tabled.tabled c.args.around.centre _ c.requires.centre_in_bounds (rw c.requires.dist_len.0 at c.search-k.ensures))

pub slice_bounds-start-end : goal.slice_bounds-start-end
slice_bounds-start-end c = short (goal.at.slice_bounds-start-end c).After-search-k

pub slice_bounds-start-end-2 : goal.slice_bounds-start-end-2
slice_bounds-start-end-2 c = sym (length-take-le _ _ (short (goal.at.slice_bounds-start-end-2 c).After-search-k))

pub start-p-requires : goal.start-p-requires
start-p-requires c =
    let list = ball-list c.requires.some_tabled.tabled c.args.around.centre _ c.requires.centre_in_bounds (rw c.requires.dist_len.0 at c.search-k.ensures) in
    record {
      part_labels_len_bound = c.requires.some_tabled.tabled.prepared.parts;
      node_list = rw c.requires.sets_len.0 list;
      below = list.below;
    }

-- what finding starts from, whatever the links, at the radius of the search
seek : (c : After-start-p) → (ps pe ns ne : List _) (r : ℕ) →
    Found c.search-k.result c.search-k.new.dist c.search-k.new.queue
    (bfs (adjacent c.args.offsets.now c.args.targets.now) (length c.args.dist.now) c.args.around.centre r) →
    Tabled (circuit c.args.part_labels.now ps pe) (circuit c.args.node_labels.now ns ne) ((tables c.args.masks.now c.args.offsets.now c.args.targets.now)) →
    Sought (circuit c.args.part_labels.now ps pe) (circuit c.args.node_labels.now ns ne) ((tables c.args.masks.now c.args.offsets.now c.args.targets.now)) c.args.around.centre r
    (take c.search-k.result c.search-k.new.queue) c.start-p.new.table
seek c ps pe ns ne r f d =
    ball-sought d c.args.around.centre r c.requires.centre_in_bounds (rw c.requires.dist_len.0 at f) (started-begins both_directions _ _ _ c.requires.sets_len.0 c.start-p.ensures)

pub find-place-requires : goal.find-place-requires
find-place-requires c =
    let sets = c.start-p.auto.table ∙ c.requires.sets_len.0 in record {
      k_in_bounds = (short (goal.at.find-place-requires c).After-search-k, record { pattern = _; board = _; radius = _; sought = seek (goal.at.find-place-requires c).After-start-p c.requires.some_tabled.part_starts c.requires.some_tabled.part_ends c.requires.some_tabled.node_starts c.requires.some_tabled.node_ends _ c.search-k.ensures c.requires.some_tabled.tabled });
      started_value = c.start-p.ensures.size;
      dist_len = (
        length-take-le _ _ (few (goal.at.find-place-requires c).Start) ∙ sym sets,
        c.search-k.auto.queue ∙ c.requires.dist_len.1 ∙ sym sets,
        c.requires.sets_len.1 ∙ sym sets,
      );
    }

pub counted-requires : goal.counted-requires
counted-requires c =
    let g = seek (goal.at.counted-requires c).After-start-p c.requires.some_tabled.part_starts c.requires.some_tabled.part_ends c.requires.some_tabled.node_starts c.requires.some_tabled.node_ends _ c.search-k.ensures c.requires.some_tabled.tabled in
    omega (arith, kept-first both_directions _ _ _ c.requires.sets_len.0 c.start-p.ensures c.requires.some_tabled.tabled.prepared.parts (c.find-place.ensures _ _ _ g).rested)

pub returns : goal.returns
returns c =
    λ ps pe ns ne d.
    let g = seek (goal.at.returns c).After-start-p ps pe ns ne c.args.around.radius c.search-k.ensures d in
    let f = c.find-place.ensures _ _ _ g in
    record {
      counted =
          c.counted.ensures
          ∙ (refined both_directions _ _ _ c.requires.sets_len.0 c.start-p.ensures d.prepared.parts f.rested).counted
          ∙ ap (counts_of _ _) (ball-marks d c.args.around.centre c.args.around.radius c.requires.centre_in_bounds (rw c.requires.dist_len.0 at c.search-k.ensures));
      answer = f.answer;
      short = f.short;
      measured = ball-measured d c.args.around.centre c.args.around.radius c.requires.centre_in_bounds (rw c.requires.dist_len.0 at c.search-k.ensures);
      there = λ k e. (_, f.there k e);
    }
