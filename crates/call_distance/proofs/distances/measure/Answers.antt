-- `call_distance::distances::measure` meets its contract: the search over the tables just made finds the distances.
-- Assumes nothing.
use Rattle.base_lists.specs.Kit.{◌∙◌, sym, refl, length, length-take-le}
use Rattle.graph.proofs.Ball.{within_all}
use Rattle.graph.proofs.Measures.{net-distances}
use Rattle.graph.proofs.Net.{net-of}
use Rattle.call_distance.proofs.distances.measure.Goals as goal

pub neighbour_tables-requires : goal.neighbour_tables-requires
neighbour_tables-requires c =
    record {
      net_room = record { in_offsets = refl; in_targets = refl };
      n_bound = c.requires.c_in_bounds.1;
      starts_len = c.requires.starts_len;
      t = c.requires.t;
    }

pub slice_bounds-search-end-3 : goal.slice_bounds-search-end-3
slice_bounds-search-end-3 c = sym (length-take-le _ _ c.requires.c_in_bounds.1)

pub search-requires : goal.search-requires
search-requires c =
    record {
      net = net-of c.neighbour_tables.ensures;
      c_in_bounds = c.requires.c_in_bounds.0;
      dist_len = sym (length-take-le _ _ c.requires.c_in_bounds.1);
    }

pub returns : goal.returns
returns c =
    let n = length c.args.dist.now in
    let links = within_all n c.args.starts.now c.args.ends.now c.requires.t.0 c.requires.t.1 in
    c.search.ensures.distances ∙ net-distances c.neighbour_tables.ensures links c.args.c c.requires.c_in_bounds.0 c.args.r
