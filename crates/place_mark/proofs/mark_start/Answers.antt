-- `place_mark::mark_start` meets its contract: the node's links are the stretch of the bytes between its two offsets. Assumes nothing.
use Rattle.std.specs.Prelude.{◌≡◌, ◌≤◌, ◌+◌, ◌-◌}
use Rattle.base_lists.specs.Kit.{sym, length, get_or, drop, length-drop, length-take-le, arith}
use Rattle.graph_neighbours.specs.Lookup.{neighbours_in}
use Rattle.graph_neighbours.proofs.Lookup.{neighbours-below}
use Rattle.graph.proofs.Net.{net-few}
use Rattle.table.specs.Prepared.{tables}
use Rattle.place_mark.proofs.Marks.{start-at, ends-length, start-marked}
use Rattle.place_mark.proofs.mark_start.Goals as goal
use Rattle.place_mark.proofs.mark_start.Goals.{After-driven_parts-driven}

pub neighbours_in-ends-requires : goal.neighbours_in-ends-requires
neighbours_in-ends-requires c = record { nodes = _; net = c.requires.ready.net; node = c.requires.v_in_bounds }

pub bounds-offsets-v : goal.bounds-offsets-v
bounds-offsets-v c = omega (arith, net-few c.requires.ready.net, c.requires.ready.net.room.in_offsets, c.requires.v_in_bounds)

pub overflow_cast-from : goal.overflow_cast-from
overflow_cast-from c = omega (arith, c.type_inv.offsets c.args.v)

-- where the node's links begin and end
bounds : (c : After-driven_parts-driven) → get_or c.args.offsets.now c.args.v 0 + length c.neighbours_in-ends.result.now ≤ length c.args.bytes.now
unfolding neighbours_in
bounds c =
    rw (c.neighbours_in-ends.ensures, start-at c.requires.ready.net c.args.v c.requires.v_in_bounds, ends-length c.requires.ready.net c.args.v c.requires.v_in_bounds) c.requires.v_in_bounds_2

pub overflow_add-to : goal.overflow_add-to
overflow_add-to c = omega (arith, bounds (goal.at.overflow_add-to c).After-driven_parts-driven)

pub slice_bounds-mark_ends-end : goal.slice_bounds-mark_ends-end
slice_bounds-mark_ends-end c = bounds (goal.at.slice_bounds-mark_ends-end c).After-driven_parts-driven

pub mark_ends-requires : goal.mark_ends-requires
mark_ends-requires c =
    let b = bounds (goal.at.mark_ends-requires c).After-driven_parts-driven in
    let a = get_or c.args.offsets.now c.args.v 0 in
    let k : a + length c.neighbours_in-ends.result.now - a ≡ length c.neighbours_in-ends.result.now = omega arith in record {
      ends_len = sym (rw k (length-take-le (length c.neighbours_in-ends.result.now) (drop a c.args.bytes.now) (omega (arith, length-drop a c.args.bytes.now))));
      below = rw c.neighbours_in-ends.ensures (neighbours-below _ c.requires.ready.net _ c.requires.v_in_bounds);
    }

pub returns : goal.returns
unfolding neighbours_in
returns c =
    start-marked ((tables c.args.masks.now c.args.offsets.now c.args.targets.now)) c.requires.ready.net c.args.v c.requires.v_in_bounds c.args.sets.now c.args.bytes.now c.requires.v_in_bounds_2 _ _ _ _
    (start-at c.requires.ready.net c.args.v c.requires.v_in_bounds) c.neighbours_in-ends.ensures c.driven_parts-driven.ensures c.mark_ends.ensures
