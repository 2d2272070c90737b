-- `graph_follow::wake_beside` meets its contract: the looks along the two stretches are visits of what lies beside the node. Assumes nothing.
use Rattle.base_lists.specs.Kit.{◌∙◌, sym, arith}
use Rattle.graph_neighbours.specs.Lookup.{neighbours_in}
use Rattle.graph_neighbours.proofs.Lookup.{neighbours-below}
use Rattle.graph_follow.proofs.Following.{beside-scan}
use Rattle.graph_follow.proofs.wake_beside.Goals as goal

pub neighbours_in-requires : goal.neighbours_in-requires
neighbours_in-requires c = record { nodes = _; net = c.requires.net; node = c.requires.v_in_bounds }

pub follow-tail-requires : goal.follow-tail-requires
follow-tail-requires c =
    record {
      searching = c.requires.searching;
      below = rw (← c.requires.sets_len, c.neighbours_in.ensures) (neighbours-below _ c.requires.net _ c.requires.v_in_bounds);
      sets_len = c.requires.sets_len;
      d_lt_far = omega arith;
    }

pub neighbours_in-requires-2 : goal.neighbours_in-requires-2
neighbours_in-requires-2 c = record { nodes = _; net = c.requires.net; node = c.requires.v_in_bounds }

pub follow-requires : goal.follow-requires
follow-requires c =
    let long = c.requires.sets_len ∙ sym c.follow-tail.auto.dist in
    record {
      searching = c.follow-tail.ensures.kept;
      below = rw (← long, c.neighbours_in-2.ensures) (neighbours-below _ c.requires.net _ c.requires.v_in_bounds);
      sets_len = long;
      d_lt_far = omega arith;
    }

pub returns : goal.returns
unfolding neighbours_in
returns c =
    record {
      state =
          beside-scan c.args.offsets.now c.args.targets.now c.args.sets.now c.args.v _ _ _ _ _ c.neighbours_in.ensures c.neighbours_in-2.ensures
          c.follow-tail.ensures.state c.follow.ensures.state;
      kept = c.follow.ensures.kept;
    }
