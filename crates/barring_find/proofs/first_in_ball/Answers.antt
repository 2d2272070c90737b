-- `barring_find::first_in_ball` meets its contract: the nodes that the search lists are the ball, and the table has the pairs that agree at them.
-- Assumes nothing.
use Rattle.std.specs.Prelude.{◌≤◌}
use Rattle.base_lists.specs.Kit.{◌∙◌, sym, length, length-take-le}
use Rattle.barring_find.proofs.Tried.{written_at}
use Rattle.barring_find.proofs.Netted.{netted-net, netted-short, netted-list, netted-ball}
use Rattle.barring_find.proofs.first_in_ball.Goals as goal
use Rattle.barring_find.proofs.first_in_ball.Goals.{After-search-k}

pub search-k-requires : goal.search-k-requires
search-k-requires c =
    record {
      net = rw c.requires.dist_len.0 (netted-net c.requires.part_labels_len_bound.1.netted);
      c_in_bounds = rw c.requires.dist_len.0 c.requires.centre_in_bounds;
      dist_len = c.requires.dist_len.0 ∙ sym c.requires.dist_len.1;
    }

-- no more nodes are listed than the queue has room for
short : (c : After-search-k) → c.search-k.result ≤ length c.search-k.new.queue
short c =
    rw (c.search-k.auto.queue, c.requires.dist_len.1)
    (netted-short c.requires.part_labels_len_bound.1.netted c.args.around.centre _ c.requires.centre_in_bounds (rw c.requires.dist_len.0 at c.search-k.ensures))

pub slice_bounds-start-end : goal.slice_bounds-start-end
slice_bounds-start-end c = short (goal.at.slice_bounds-start-end c).After-search-k

pub slice_bounds-start-end-2 : goal.slice_bounds-start-end-2
slice_bounds-start-end-2 c = sym (length-take-le _ _ (short (goal.at.slice_bounds-start-end-2 c).After-search-k))

pub start-requires : goal.start-requires
start-requires c =
    let list = netted-list c.requires.part_labels_len_bound.1.netted c.args.around.centre _ c.requires.centre_in_bounds (rw c.requires.dist_len.0 at c.search-k.ensures) in
    record {
      part_labels_len_bound = c.requires.part_labels_len_bound.0;
      node_list = rw c.requires.dist_len.2 list;
      below = list.below;
    }

pub returns : goal.returns
returns c =
    λ ns ne d.
    let f = rw c.requires.dist_len.0 at c.search-k.ensures in
    record {
      short = short (goal.at.returns c).After-search-k;
      list = netted-list d c.args.around.centre c.args.around.radius c.requires.centre_in_bounds f;
      ball = netted-ball d c.args.around.centre c.args.around.radius c.requires.centre_in_bounds f;
      agree = written_at c.start.ensures c.requires.dist_len.2;
    }
