-- `graph_search::expand` meets its contract: the visits of what the node drives and of what drives it are those of its neighbours. Assumes
-- nothing.
use Rattle.graph.proofs.BfsSteps.{expanded}
use Rattle.graph_neighbours.specs.Lookup.{neighbours_in}
use Rattle.graph_neighbours.proofs.Lookup.{neighbours-below}
use Rattle.graph_search.proofs.expand.Goals as goal

pub scan-tail-requires : goal.scan-tail-requires
scan-tail-requires c =
    record {
      searching = c.requires.searching;
      below = rw c.neighbours_in-driven.ensures (neighbours-below _ c.requires.net _ c.requires.v_in_bounds);
      d_lt_far = c.requires.d_lt_far;
    }

pub scan-requires : goal.scan-requires
scan-requires c =
    record {
      searching = c.scan-tail.ensures.kept;
      below = rw (c.scan-tail.auto.dist, c.neighbours_in-driving.ensures) (neighbours-below _ c.requires.net _ c.requires.v_in_bounds);
      d_lt_far = c.requires.d_lt_far;
    }

pub returns : goal.returns
unfolding neighbours_in
returns c =
    record {
      state = expanded _ _ _ _ _ _ _ _ _ c.neighbours_in-driven.ensures c.neighbours_in-driving.ensures c.scan-tail.ensures.state c.scan.ensures.state;
      kept = c.scan.ensures.kept;
    }
