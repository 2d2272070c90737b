-- `graph_neighbours::tables::group_both` meets its contract: one grouping serves both directions, and fills one half of each list.
-- Assumes nothing.
use Rattle.std.specs.Prelude.{◌≡◌, ◌≤◌, ◌+◌}
use Rattle.base_lists.specs.Kit.{◌∙◌, sym, length, length-take-le, arith}
use Rattle.base_lists.proofs.Parts.{length-halved}
use Rattle.graph_neighbours.proofs.Grouped.{length-fore, length-aft, grouped-both}
use Rattle.graph_neighbours.proofs.tables.group_both.Goals as goal
use Rattle.graph_neighbours.proofs.tables.group_both.Goals.{After-group, After-group-2}

pub slice_bounds-group-end-2 : goal.slice_bounds-group-end-2
slice_bounds-group-end-2 c = sym (length-take-le 513 c.args.offsets.now (omega (arith, c.requires.net_room.in_offsets)))

pub slice_bounds-group-end-4 : goal.slice_bounds-group-end-4
slice_bounds-group-end-4 c = sym (length-take-le 4096 c.args.targets.now (omega (arith, c.requires.net_room.in_targets)))

pub group-requires : goal.group-requires
group-requires c =
    let o = length-take-le 513 c.args.offsets.now (omega (arith, c.requires.net_room.in_offsets)) in
    let l = length-take-le 4096 c.args.targets.now (omega (arith, c.requires.net_room.in_targets)) in
    record {
      keys_len = c.requires.starts_len.0;
      t = c.requires.t.0;
      keys_len_bound = omega (arith, c.requires.starts_len_bound.0);
      n_in_bounds = omega (arith, c.requires.n_bound);
      keys_in_bounds = omega (arith, c.requires.starts_len_bound.0);
    }

-- the two lists have room for both halves
room : (c : After-group) → (513 + 513 ≤ length c.args.offsets.now) × (4096 + 4096 ≤ length c.args.targets.now)
room c = (omega (arith, c.requires.net_room.in_offsets), omega (arith, c.requires.net_room.in_targets))

-- what was filled is as long as a half
fore : (c : After-group) → (length c.group.new.offsets ≡ 513) × (length c.group.new.table ≡ 4096)
fore c = (
  c.group.auto.offsets ∙ length-take-le 513 c.args.offsets.now (omega (arith, (room c).0)),
  c.group.auto.table ∙ length-take-le 4096 c.args.targets.now (omega (arith, (room c).1)),
)

pub slice_bounds-group-end-5 : goal.slice_bounds-group-end-5
slice_bounds-group-end-5 c =
    omega (arith, (room (goal.at.slice_bounds-group-end-5 c).After-group).0, length-fore 513 c.group.new.offsets c.args.offsets.now (fore (goal.at.slice_bounds-group-end-5 c).After-group).0 (room (goal.at.slice_bounds-group-end-5 c).After-group).0)

pub slice_bounds-group-end-6 : goal.slice_bounds-group-end-6
slice_bounds-group-end-6 c =
    omega (arith, (room (goal.at.slice_bounds-group-end-6 c).After-group).1, length-fore 4096 c.group.new.table c.args.targets.now (fore (goal.at.slice_bounds-group-end-6 c).After-group).1 (room (goal.at.slice_bounds-group-end-6 c).After-group).1)

-- ---- and the second
pub group-requires-2 : goal.group-requires-2
group-requires-2 c =
    let o = length-aft 513 c.group.new.offsets c.args.offsets.now (fore (goal.at.group-requires-2 c).After-group).0 (room (goal.at.group-requires-2 c).After-group).0 in
    let l = length-aft 4096 c.group.new.table c.args.targets.now (fore (goal.at.group-requires-2 c).After-group).1 (room (goal.at.group-requires-2 c).After-group).1 in
    record {
      keys_len = c.requires.starts_len.1;
      t = c.requires.t.1;
      keys_len_bound = omega (arith, c.requires.starts_len_bound.1);
      n_in_bounds = omega (arith, c.requires.n_bound, o);
      keys_in_bounds = omega (arith, c.requires.starts_len_bound.1, l);
    }

-- what was filled is as long as a half
aft : (c : After-group-2) → (length c.group-2.new.offsets ≡ 513) × (length c.group-2.new.table ≡ 4096)
aft c = (
  c.group-2.auto.offsets ∙ length-aft 513 c.group.new.offsets c.args.offsets.now ((let fact : (length c.group.new.offsets ≡ 513) × (length c.group.new.table ≡ 4096) = (
    c.group.auto.offsets ∙ length-take-le 513 c.args.offsets.now (omega (arith, ((let fact : (513 + 513 ≤ length c.args.offsets.now) × (4096 + 4096 ≤ length c.args.targets.now) = (omega (arith, c.requires.net_room.in_offsets), omega (arith, c.requires.net_room.in_targets)) in fact)).0)),
    c.group.auto.table ∙ length-take-le 4096 c.args.targets.now (omega (arith, ((let fact : (513 + 513 ≤ length c.args.offsets.now) × (4096 + 4096 ≤ length c.args.targets.now) = (omega (arith, c.requires.net_room.in_offsets), omega (arith, c.requires.net_room.in_targets)) in fact)).1)),
  ) in fact)).0 ((let fact : (513 + 513 ≤ length c.args.offsets.now) × (4096 + 4096 ≤ length c.args.targets.now) = (omega (arith, c.requires.net_room.in_offsets), omega (arith, c.requires.net_room.in_targets)) in fact)).0,
  c.group-2.auto.table ∙ length-aft 4096 c.group.new.table c.args.targets.now ((let fact : (length c.group.new.offsets ≡ 513) × (length c.group.new.table ≡ 4096) = (
    c.group.auto.offsets ∙ length-take-le 513 c.args.offsets.now (omega (arith, ((let fact : (513 + 513 ≤ length c.args.offsets.now) × (4096 + 4096 ≤ length c.args.targets.now) = (omega (arith, c.requires.net_room.in_offsets), omega (arith, c.requires.net_room.in_targets)) in fact)).0)),
    c.group.auto.table ∙ length-take-le 4096 c.args.targets.now (omega (arith, ((let fact : (513 + 513 ≤ length c.args.offsets.now) × (4096 + 4096 ≤ length c.args.targets.now) = (omega (arith, c.requires.net_room.in_offsets), omega (arith, c.requires.net_room.in_targets)) in fact)).1)),
  ) in fact)).1 ((let fact : (513 + 513 ≤ length c.args.offsets.now) × (4096 + 4096 ≤ length c.args.targets.now) = (omega (arith, c.requires.net_room.in_offsets), omega (arith, c.requires.net_room.in_targets)) in fact)).1,
)

pub shape_of-offsets : goal.shape_of-offsets
shape_of-offsets c =
    length-halved 513 c.group.new.offsets c.group-2.new.offsets c.args.offsets.now (fore (goal.at.shape_of-offsets c).After-group).0 (aft (goal.at.shape_of-offsets c).After-group-2).0 (room (goal.at.shape_of-offsets c).After-group).0

pub shape_of-targets : goal.shape_of-targets
shape_of-targets c =
    length-halved 4096 c.group.new.table c.group-2.new.table c.args.targets.now (fore (goal.at.shape_of-targets c).After-group).1 (aft (goal.at.shape_of-targets c).After-group-2).1 (room (goal.at.shape_of-targets c).After-group).1

pub returns : goal.returns
returns c =
    grouped-both c.args.n c.args.starts.now c.args.ends.now c.args.forward.now c.args.backward.now
    c.group.new.offsets
    c.group.new.table
    c.group-2.new.offsets
    c.group-2.new.table
    c.args.offsets.now c.args.targets.now c.requires.net_room (fore (goal.at.returns c).After-group).0 (fore (goal.at.returns c).After-group).1 (aft (goal.at.returns c).After-group-2).0 (aft (goal.at.returns c).After-group-2).1
    c.group.ensures.offsets_after c.group.ensures.table_after c.group-2.ensures.offsets_after c.group-2.ensures.table_after
