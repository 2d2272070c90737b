-- `graph_radius::measure` meets its contract: what is found in the tables just made is the radius. Assumes nothing.
use Rattle.base_lists.specs.Kit.{arith}
use Rattle.graph_radius.proofs.Balls.{balls-below}
use Rattle.graph_radius.proofs.Spanning.{finds-radius}
use Rattle.graph_radius.proofs.measure.Goals as goal

pub first_spanning-requires : goal.first_spanning-requires
first_spanning-requires c =
    record {
      near_len_bound = (omega (arith, c.neighbourhoods.auto.near, c.requires.starts_len), balls-below _ _ _ 1 _ c.neighbourhoods.ensures);
      len = (omega (arith, c.neighbourhoods.auto.near, c.requires.len, c.singles.auto.sets), omega (arith, c.neighbourhoods.auto.near, c.requires.len));
    }

pub returns : goal.returns
returns c =
    finds-radius _ _ _ _ _ _ _ c.requires.t.0 c.requires.t.1 c.neighbourhoods.ensures c.singles.ensures c.requires.len.0
    c.first_spanning.ensures
