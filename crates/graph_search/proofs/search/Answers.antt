-- `graph_search::search` meets its contract: it goes on from the centre until it has reached all that it can, or every node. Assumes nothing.
use Rattle.base_lists.specs.Kit.{◌∙◌}
use Rattle.graph.proofs.BfsSteps.{found}
use Rattle.graph_search.proofs.Onward.{centre-standing, advanced-every}
use Rattle.graph_search.proofs.Full.{reached-missing}
use Rattle.graph_search.proofs.search.Goals as goal

pub advance-end-requires : goal.advance-end-requires
advance-end-requires c =
    record {
      net = rw c.begin.auto.dist c.requires.net;
      searching = c.begin.ensures.kept;
      standing = centre-standing _;
    }

pub returns : goal.returns
returns c =
    let every = reached-missing c.advance-end.ensures.searching_2 ∙ c.advance-end.auto.dist in
    found _ _ _ _ (record { state = advanced-every _ _ c.begin.ensures.state c.advance-end.ensures.advanced every; kept = c.advance-end.ensures.searching_2 })
