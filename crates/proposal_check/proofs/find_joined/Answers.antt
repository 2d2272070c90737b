-- `proposal_check::find_joined` meets its contract: the nodes that the search lists are all that links join to the
-- centre, and the pairs of equal kinds among them are a first table. Assumes nothing.
use Rattle.std.specs.Prelude.{◌≤◌}
use Rattle.base_lists.specs.Kit.{◌∙◌, sym, List, ℕ, length, take, length-take-le}
use Rattle.graph.specs.Bfs.{bfs, adjacent, Found}
use Rattle.graph.specs.Circuit.{circuit}
use Rattle.table.specs.Prepared.{tables}
use Rattle.table.specs.Row.{both_directions}
use Rattle.table.proofs.Begun.{started-begins}
use Rattle.place.specs.Find.{Tabled, Sought}
use Rattle.place.proofs.Find.{tabled-net, ball-short, ball-list, ball-sought, found-located}
use Rattle.proposal_check.proofs.find_joined.Goals as goal
use Rattle.proposal_check.proofs.find_joined.Goals.{After-search-k, After-start-p}

pub search-k-requires : goal.search-k-requires
search-k-requires c =
    record {
      net = rw c.requires.dist_len.0 (tabled-net c.requires.some_tabled.tabled);
      c_in_bounds = rw c.requires.dist_len.0 c.requires.node_labels_len_bound.1;
      dist_len = c.requires.dist_len.0 ∙ sym c.requires.dist_len.1;
    }

-- no more nodes are listed than the queue has room for
short : (c : After-search-k) → c.search-k.result ≤ length c.search-k.new.queue
short c =
    rw (c.search-k.auto.queue, c.requires.dist_len.1)
    (ball-short c.requires.some_tabled.tabled c.args.c _ c.requires.node_labels_len_bound.1 (rw c.requires.dist_len.0 at c.search-k.ensures))

pub slice_bounds-start-end : goal.slice_bounds-start-end
slice_bounds-start-end c = short (goal.at.slice_bounds-start-end c).After-search-k

pub slice_bounds-start-end-2 : goal.slice_bounds-start-end-2
slice_bounds-start-end-2 c = sym (length-take-le _ _ (short (goal.at.slice_bounds-start-end-2 c).After-search-k))

pub start-p-requires : goal.start-p-requires
start-p-requires c =
    let list = ball-list c.requires.some_tabled.tabled c.args.c _ c.requires.node_labels_len_bound.1 (rw c.requires.dist_len.0 at c.search-k.ensures) in
    record {
      part_labels_len_bound = c.requires.some_tabled.tabled.prepared.parts;
      node_list = rw c.requires.sets_len.0 list;
      below = list.below;
    }

-- what finding starts from, whatever the links, at the radius of the search
seek : (c : After-start-p) → (ps pe ns ne : List _) (r : ℕ) →
    Found c.search-k.result c.search-k.new.dist c.search-k.new.queue
    (bfs (adjacent c.args.offsets.now c.args.targets.now) (length c.args.dist.now) c.args.c r) →
    Tabled (circuit c.args.part_labels.now ps pe) (circuit c.args.node_labels.now ns ne) ((tables c.args.masks.now c.args.offsets.now c.args.targets.now)) →
    Sought (circuit c.args.part_labels.now ps pe) (circuit c.args.node_labels.now ns ne) ((tables c.args.masks.now c.args.offsets.now c.args.targets.now)) c.args.c r
    (take c.search-k.result c.search-k.new.queue) c.start-p.new.table
seek c ps pe ns ne r f d =
    ball-sought d c.args.c r c.requires.node_labels_len_bound.1 (rw c.requires.dist_len.0 at f) (started-begins both_directions _ _ _ c.requires.sets_len.0 c.start-p.ensures)

pub find-place-requires : goal.find-place-requires
find-place-requires c =
    let sets = c.start-p.auto.table ∙ c.requires.sets_len.0 in record {
      k_in_bounds = (short (goal.at.find-place-requires c).After-search-k, record { pattern = _; board = _; radius = _; sought = seek (goal.at.find-place-requires c).After-start-p c.requires.some_tabled.part_starts c.requires.some_tabled.part_ends c.requires.some_tabled.node_starts c.requires.some_tabled.node_ends _ c.search-k.ensures c.requires.some_tabled.tabled });
      started_value = c.start-p.ensures.size;
      dist_len = (
        c.search-k.auto.dist ∙ c.requires.dist_len.0 ∙ sym sets,
        c.search-k.auto.queue ∙ c.requires.dist_len.1 ∙ sym sets,
        c.requires.sets_len.1 ∙ sym sets,
      );
    }

pub returns : goal.returns
returns c =
    λ ps pe ns ne d.
    let g = seek (goal.at.returns c).After-start-p ps pe ns ne (length c.args.node_labels.now) c.search-k.ensures d in
    let f = c.find-place.ensures _ _ _ g in
    let (list, there) = found-located f in
    record { answer = c.is_some.ensures ∙ f.answer; there = λ e. (list, there (sym c.is_some.ensures ∙ e)) }
