-- `place_components::gather` meets its contract: those with the centre's number are kept of what the search reaches. Assumes nothing.
use Rattle.base_lists.specs.Kit.{◌∙◌, sym, refl, arith}
use Rattle.graph.specs.Bfs.{state_of}
use Rattle.graph.proofs.Net.{net-few}
use Rattle.place_components.proofs.gather.Goals as goal

pub search_until-k-requires : goal.search_until-k-requires
search_until-k-requires c =
    record {
      net = c.requires.net;
      c_in_bounds = c.requires.c_in_bounds;
      dist_len = c.requires.dist_len;
      c_value = (refl, c.requires.size_bound);
    }

pub keep-requires : goal.keep-requires
unfolding state_of
keep-requires c =
    (c.search_until-k.ensures.searching.within, omega (arith, c.search_until-k.auto.queue, net-few c.requires.net, c.requires.dist_len.0), rw (c.search_until-k.auto.dist ∙ sym c.requires.dist_len.1) at c.search_until-k.ensures.searching.ready.inside)

pub returns : goal.returns
unfolding state_of
returns c =
    (c.keep.ensures.upper_bound, record { all = _; until = c.search_until-k.ensures.until; passed = c.keep.ensures.queue_after })
