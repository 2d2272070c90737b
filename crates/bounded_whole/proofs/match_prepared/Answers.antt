-- `bounded_whole::match_prepared` meets its contract: every node is listed, and the pairs of equal kinds are struck to the end. Assumes nothing.
use Rattle.std.specs.Prelude.{◌≡◌, ◌≤◌}
use Rattle.base_lists.specs.Kit.{◌∙◌, sym, ap, List, ℕ, le_trans, le_of_eq, lit≤, length, length-take-le}
use Rattle.graph.specs.Circuit.{circuit}
use Rattle.graph.proofs.Net.{net-of, net-few}
use Rattle.table_row.specs.Row.{start_of}
use Rattle.table.specs.Fill.{all_nodes}
use Rattle.bounded.specs.Problem.{bounded_problem}
use Rattle.bounded_whole.proofs.Settle.{prefix-all, prefix-list, prefix-long, prefix-room, first-table, first-ready, whole-few, whole_row}
use Rattle.bounded_whole.proofs.match_prepared.Goals as goal
use Rattle.bounded_whole.proofs.match_prepared.Goals.{After-list_all, After-start-started, Start}

few : (s : Start) → (length s.args.node_labels.now) ≤ 512
few s = net-few (net-of s.requires.some_bounded_pattern.prepared.net)

short : (s : Start) → (length s.args.node_labels.now) ≤ 65536
short s = le_trans (few s) (lit≤ tt)

pub slice_bounds-nodes-end : goal.slice_bounds-nodes-end
slice_bounds-nodes-end c = few (goal.at.slice_bounds-nodes-end c).Start

pub slice_bounds-list_all-end : goal.slice_bounds-list_all-end
slice_bounds-list_all-end c = sym (length-take-le _ _ (few (goal.at.slice_bounds-list_all-end c).Start))

pub list_all-requires : goal.list_all-requires
list_all-requires c = le_trans (le_of_eq (length-take-le _ _ (few (goal.at.list_all-requires c).Start))) (short (goal.at.list_all-requires c).Start)

listed : (l : After-list_all) → l.list_all.new.nodes ≡ all_nodes ((length l.args.node_labels.now))
listed l = l.list_all.ensures ∙ ap all_nodes (length-take-le _ _ ((let fact : (length l.args.node_labels.now) ≤ 512 = net-few (net-of l.requires.some_bounded_pattern.prepared.net) in fact)))

pub slice_bounds-nodes-end-2 : goal.slice_bounds-nodes-end-2
slice_bounds-nodes-end-2 c = prefix-room _ _ _ (listed (goal.at.slice_bounds-nodes-end-2 c).After-list_all)

pub slice_bounds-start-end : goal.slice_bounds-start-end
slice_bounds-start-end c = sym (prefix-long _ _ _ (listed (goal.at.slice_bounds-start-end c).After-list_all))

pub start-started-requires : goal.start-started-requires
start-started-requires c =
    let list = prefix-list _ _ _ (listed (goal.at.start-started-requires c).After-list_all) (short (goal.at.start-started-requires c).Start) in
    record {
      part_labels_len_bound = c.requires.some_bounded_pattern.prepared.parts;
      node_list = rw c.requires.table_len list;
      below = list.below;
    }

made : (f : After-start-started) (part_starts part_ends bounds node_starts node_ends : List ℕ) →
    f.start-started.new.table ≡ start_of (bounded_problem (circuit f.args.part_labels.now part_starts part_ends) bounds (circuit f.args.node_labels.now node_starts node_ends))
made f part_starts part_ends bounds node_starts node_ends =
    first-table (circuit f.args.part_labels.now part_starts part_ends) bounds (circuit f.args.node_labels.now node_starts node_ends) f.requires.table_len
    (prefix-all _ _ _ ((let fact : f.list_all.new.nodes ≡ all_nodes ((length f.args.node_labels.now)) = f.list_all.ensures ∙ ap all_nodes (length-take-le _ _ ((let fact : (length f.args.node_labels.now) ≤ 512 = net-few (net-of f.requires.some_bounded_pattern.prepared.net) in fact))) in fact))) f.start-started.ensures

pub slice_bounds-spare-end : goal.slice_bounds-spare-end
slice_bounds-spare-end c = few (goal.at.slice_bounds-spare-end c).Start

pub slice_bounds-refine-end : goal.slice_bounds-refine-end
slice_bounds-refine-end c = sym (length-take-le _ _ (few (goal.at.slice_bounds-refine-end c).Start))

pub slice_bounds-layer-end : goal.slice_bounds-layer-end
slice_bounds-layer-end c = few (goal.at.slice_bounds-layer-end c).Start

pub slice_bounds-refine-end-2 : goal.slice_bounds-refine-end-2
slice_bounds-refine-end-2 c = sym (length-take-le _ _ (few (goal.at.slice_bounds-refine-end-2 c).Start))

pub slice_bounds-next-end : goal.slice_bounds-next-end
slice_bounds-next-end c = few (goal.at.slice_bounds-next-end c).Start

pub slice_bounds-refine-end-3 : goal.slice_bounds-refine-end-3
slice_bounds-refine-end-3 c = sym (length-take-le _ _ (few (goal.at.slice_bounds-refine-end-3 c).Start))

pub refine-end-requires : goal.refine-end-requires
refine-end-requires c =
    let long = c.start-started.auto.table ∙ c.requires.table_len in
    let scratch = length-take-le _ _ (few (goal.at.refine-end-requires c).Start) ∙ sym long in record {
      bounded_ready = first-ready _ _ _ c.requires.some_bounded_pattern.prepared (made (goal.at.refine-end-requires c).After-start-started c.requires.some_bounded_pattern.part_starts c.requires.some_bounded_pattern.part_ends c.requires.some_bounded_pattern.bounds c.requires.some_bounded_pattern.node_starts c.requires.some_bounded_pattern.node_ends);
      spare_len = (scratch, length-take-le _ _ (few (goal.at.refine-end-requires c).Start) ∙ sym long, length-take-le _ _ (few (goal.at.refine-end-requires c).Start) ∙ sym long);
      started_value = c.start-started.ensures.size;
    }

pub counted-requires : goal.counted-requires
counted-requires c =
    whole-few _ _ _ c.requires.some_bounded_pattern.prepared (made (goal.at.counted-requires c).After-start-started c.requires.some_bounded_pattern.part_starts c.requires.some_bounded_pattern.part_ends c.requires.some_bounded_pattern.bounds c.requires.some_bounded_pattern.node_starts c.requires.some_bounded_pattern.node_ends) c.start-started.ensures.size c.refine-end.ensures

pub returns : goal.returns
returns c =
    λ part_starts part_ends bounds node_starts node_ends p.
    rw c.counted.ensures (whole_row _ _ _ p (made (goal.at.returns c).After-start-started part_starts part_ends bounds node_starts node_ends) c.start-started.ensures.size c.refine-end.ensures)
