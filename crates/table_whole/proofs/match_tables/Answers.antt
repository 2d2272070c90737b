-- `table_whole::match_tables` meets its contract: every node is listed, and the pairs of equal kinds are struck to the end. Assumes nothing.
use mathlib.Core.Path.{sym, ◌∙◌}
use Prim.Native.Nat.{◌≤◌}
use native.Mathlib.Nat.{le_trans}
use native.Mathlib.Omega.{arith}
use lib.Dec.{lit≤}
use lib.ListN.{length}
use lib.Seq.{length-take-le}
use Rattle.graph.proofs.Net.{net-of, net-few}
use Rattle.table.specs.Fill.{NodeList}
use Rattle.table.proofs.Begun.{started-begins, kept-first, refined}
use Rattle.table.proofs.Prepare.{listed-all, refined-everything}
use Rattle.table.proofs.NodeLists.{all_list}
use Rattle.table_whole.proofs.match_tables.Goals as goal
use Rattle.table_whole.proofs.match_tables.Goals.{After-list_all, Start}

few : (start : Start) → length start.args.node_labels.now ≤ 512
few start = net-few (net-of start.requires.some_links.prepared.net)

pub slice_bounds-listed-end : goal.slice_bounds-listed-end
slice_bounds-listed-end c = few (goal.at.slice_bounds-listed-end c).Start

pub slice_bounds-nodes-end : goal.slice_bounds-nodes-end
slice_bounds-nodes-end c = sym (length-take-le _ _ (few (goal.at.slice_bounds-nodes-end c).Start))

pub slice_bounds-second-end : goal.slice_bounds-second-end
slice_bounds-second-end c = few (goal.at.slice_bounds-second-end c).Start

pub slice_bounds-spare-end : goal.slice_bounds-spare-end
slice_bounds-spare-end c = sym (length-take-le _ _ (few (goal.at.slice_bounds-spare-end c).Start))

pub list_all-requires : goal.list_all-requires
list_all-requires c =
    rw (length-take-le _ _ (few (goal.at.list_all-requires c).Start)) (le_trans (few (goal.at.list_all-requires c).Start) (lit≤ tt))

list : (c : After-list_all) → NodeList (length c.args.node_labels.now) c.list_all.new.nodes
list c =
    rw (listed-all (length-take-le _ _ ((let fact : length c.args.node_labels.now ≤ 512 = net-few (net-of c.requires.some_links.prepared.net) in fact))) c.list_all.ensures) (all_list _ (le_trans ((let fact : length c.args.node_labels.now ≤ 512 = net-few (net-of c.requires.some_links.prepared.net) in fact)) (lit≤ tt)))

pub start-started-requires : goal.start-started-requires
start-started-requires c =
    record {
      part_labels_len_bound = c.requires.some_links.prepared.parts;
      node_list = rw c.requires.table_len (list (goal.at.start-started-requires c).After-list_all);
      below = (list (goal.at.start-started-requires c).After-list_all).below;
    }

pub refine-end-requires : goal.refine-end-requires
refine-end-requires c =
    record {
      tables_known = record { ways = _; pattern = _; host = _; prepared = c.requires.some_links.prepared; begins = started-begins _ _ _ _ c.requires.table_len c.start-started.ensures };
      node_list = rw (c.start-started.auto.table ∙ c.requires.table_len) (list (goal.at.refine-end-requires c).After-list_all);
      spare_len = length-take-le _ _ (few (goal.at.refine-end-requires c).Start) ∙ sym (c.start-started.auto.table ∙ c.requires.table_len);
      started_value = c.start-started.ensures.size;
    }

pub counted-requires : goal.counted-requires
counted-requires c =
    omega (arith, kept-first _ _ _ _ c.requires.table_len c.start-started.ensures c.requires.some_links.prepared.parts (c.refine-end.ensures _ _ _ c.requires.some_links.prepared (started-begins _ _ _ _ c.requires.table_len c.start-started.ensures)))

pub returns : goal.returns
returns c =
    λ ways part_starts part_ends node_starts node_ends p.
    refined-everything (listed-all (length-take-le _ _ (few (goal.at.returns c).Start)) c.list_all.ensures)
    (rw c.counted.ensures (refined _ _ _ _ c.requires.table_len c.start-started.ensures p.parts (c.refine-end.ensures _ _ _ p (started-begins _ _ _ _ c.requires.table_len c.start-started.ensures))))
