-- `place_component::expand` meets its contract: the looks along the two stretches are visits of what matching links join to the node.
-- Assumes nothing.
use Rattle.base_lists.specs.Kit.{◌∙◌, sym, length}
use Rattle.graph.specs.Net.{Net}
use Rattle.graph_neighbours.specs.Lookup.{neighbours_in}
use Rattle.graph_neighbours.proofs.Lookup.{neighbours-below}
use Rattle.table.specs.Prepared.{tables}
use Rattle.place.proofs.Spread.{matched-scan}
use Rattle.place_component.proofs.expand.Goals as goal
use Rattle.place_component.proofs.expand.Goals.{Start}

-- the tables are over the nodes of the search
net : (s : Start) → Net (length s.args.dist.now) s.args.offsets.now s.args.targets.now
net s = rw (← s.requires.sets_len) s.requires.ready.net

pub neighbours_in-requires : goal.neighbours_in-requires
neighbours_in-requires c = record { nodes = _; net = net (goal.at.neighbours_in-requires c).Start; node = c.requires.v_in_bounds }

pub follow-tail-requires : goal.follow-tail-requires
follow-tail-requires c =
    record {
      searching = c.requires.searching;
      below = rw c.neighbours_in.ensures (neighbours-below _ (net (goal.at.follow-tail-requires c).Start) _ c.requires.v_in_bounds);
      sets_len = c.requires.sets_len;
      d_lt_far = c.requires.d_lt_far;
    }

pub neighbours_in-requires-2 : goal.neighbours_in-requires-2
neighbours_in-requires-2 c = record { nodes = _; net = net (goal.at.neighbours_in-requires-2 c).Start; node = c.requires.v_in_bounds }

pub follow-requires : goal.follow-requires
follow-requires c =
    record {
      searching = c.follow-tail.ensures.kept;
      below = rw (c.follow-tail.auto.dist, c.neighbours_in-2.ensures) (neighbours-below _ (net (goal.at.follow-requires c).Start) _ c.requires.v_in_bounds);
      sets_len = c.requires.sets_len ∙ sym c.follow-tail.auto.dist;
      d_lt_far = c.requires.d_lt_far;
    }

pub returns : goal.returns
unfolding neighbours_in
returns c =
    record {
      state =
          matched-scan (tables c.args.masks.now c.args.offsets.now c.args.targets.now) c.args.sets.now c.args.v c.args.d _ _ _ _ _ _ _
          c.driven_parts-driven.ensures c.driving_parts-driving.ensures c.neighbours_in.ensures c.neighbours_in-2.ensures
          c.follow-tail.ensures.state c.follow.ensures.state;
      kept = c.follow.ensures.kept;
    }
