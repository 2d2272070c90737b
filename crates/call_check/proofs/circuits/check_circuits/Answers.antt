-- `call_check::circuits::check_circuits` meets its contract: the tests one after another; what is left of the links is a
-- board of its own. Assumes nothing.
use Rattle.base_lists.specs.Kit.{◌∙◌, sym, length-take-le, rules}
use Rattle.base_lists.proofs.Entries.{all-below, below_wider}
use Rattle.file_format.proofs.Accepted.{bounded-starts, bounded-ends}
use Rattle.proposal_check.proofs.Marked.{marks-not, near-not, fills-left, left-parallel, left-sizes, left-nodes, left-tabled}
use Rattle.call_check.proofs.circuits.check_circuits.Goals as goal

pub marks_subgraph-requires : goal.marks_subgraph-requires
marks_subgraph-requires c =
    record {
      link_bytes_len = (c.requires.nodes_len.1, c.requires.nodes_len.1 ∙ c.requires.drawn.nodes.parallel);
      below = rw c.requires.nodes_len.0 (all-below _ _ (bounded-starts c.requires.drawn.nodes), all-below _ _ (bounded-ends c.requires.drawn.nodes));
      centre_in_bounds = rw c.requires.nodes_len.0 c.requires.centre_in_bounds;
    }

pub returns-then-not-marks_subgraph : goal.returns-then-not-marks_subgraph
returns-then-not-marks_subgraph c = marks-not _ _ _ _ _ _ (sym (c.marks_subgraph.ensures _) ∙ c.if-not-marks_subgraph.true)

pub near-requires : goal.near-requires
near-requires c =
    record {
      net_room = search rules;
      nodes_len_bound = rw c.requires.nodes_len.0 (c.requires.drawn.nodes.nodes, c.requires.centre_in_bounds);
      starts_len = (c.requires.drawn.nodes.parallel, c.requires.drawn.nodes.links);
      t = rw c.requires.nodes_len.0 (bounded-starts c.requires.drawn.nodes, bounded-ends c.requires.drawn.nodes);
    }

pub returns-then-not-near : goal.returns-then-not-near
returns-then-not-near c =
    near-not _ _ _ _ _ _ (sym (c.marks_subgraph.ensures _) ∙ c.if-not-marks_subgraph.false) c.requires.nodes_len.0
    (sym c.near.ensures ∙ c.if-not-near.true)

pub slice_bounds-prepare_along-end-2 : goal.slice_bounds-prepare_along-end-2
slice_bounds-prepare_along-end-2 c = sym (length-take-le _ _ c.choose-m.ensures.0)

pub slice_bounds-prepare_along-end-4 : goal.slice_bounds-prepare_along-end-4
slice_bounds-prepare_along-end-4 c = sym (length-take-le _ _ c.choose-k.ensures.0)

pub prepare_along-requires : goal.prepare_along-requires
prepare_along-requires c =
    let starts = below_wider _ 32 _ c.requires.drawn.parts.nodes (all-below _ _ (bounded-starts c.requires.drawn.parts)) in
    let ends = below_wider _ 32 _ c.requires.drawn.parts.nodes (all-below _ _ (bounded-ends c.requires.drawn.parts)) in
    record {
      part_starts_len = (c.requires.drawn.parts.parallel, starts, ends);
      n_bound = left-sizes c.requires.drawn _ c.choose-m.ensures.1 c.choose-k.ensures.1;
      t = left-nodes c.requires.drawn _ c.choose-m.ensures.1 c.choose-k.ensures.1;
      masks_len = search rules;
    }

pub slice_bounds-fills-end-5 : goal.slice_bounds-fills-end-5
slice_bounds-fills-end-5 c = sym (length-take-le _ _ c.choose-m.ensures.0)

pub slice_bounds-fills-end-7 : goal.slice_bounds-fills-end-7
slice_bounds-fills-end-7 c = sym (length-take-le _ _ c.choose-k.ensures.0)

pub fills-requires : goal.fills-requires
fills-requires c =
    record {
      some_pattern = record { part_starts = _; part_ends = _; tabled = left-tabled c.requires.drawn _ c.choose-m.ensures.1 c.choose-k.ensures.1 c.prepare_along.ensures.masked_by c.prepare_along.ensures.net_of };
      starts_len = left-parallel c.requires.drawn _ c.choose-m.ensures.1 c.choose-k.ensures.1;
      node_labels_len_bound = (c.requires.drawn.nodes.nodes, c.requires.centre_in_bounds, c.requires.nodes_len.0);
    }

pub returns : goal.returns
returns c =
    c.fills.ensures _ _ (left-tabled c.requires.drawn _ c.choose-m.ensures.1 c.choose-k.ensures.1 c.prepare_along.ensures.masked_by c.prepare_along.ensures.net_of)
    ∙ fills-left _ _ _ _ _ _ (sym (c.marks_subgraph.ensures _) ∙ c.if-not-marks_subgraph.false) c.requires.nodes_len.0
    (sym c.near.ensures ∙ c.if-not-near.false) c.choose-m.ensures.1 c.choose-k.ensures.1
