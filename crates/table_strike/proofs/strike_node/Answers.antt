-- `table_strike::strike_node` meets its contract. Of an empty set nothing survives, so that its neighbours need no look. Assumes nothing.
use Rattle.base_lists.specs.Kit.{◌∙◌, sym, ap}
use Rattle.base_bits.specs.Bits.{union_at}
use Rattle.graph_neighbours.specs.declared.neighbours.Direction.TheVariants.{Forward}
use Rattle.graph_neighbours.specs.Lookup.{neighbours_in}
use Rattle.graph_neighbours.proofs.Lookup.{neighbours-below}
use Rattle.table.specs.Prepared.{tables}
use Rattle.table_strike.proofs.Survivors.{strike-none, strike-unions}
use Rattle.table_strike.proofs.strike_node.Goals as goal

pub returns-then-set-eq0 : goal.returns-then-set-eq0
returns-then-set-eq0 c =
    sym (strike-none ((tables c.args.masks.now c.args.offsets.now c.args.targets.now)) c.args.old.now c.args.v c.if-set-eq0.true)

-- ---- the unions over what the node drives and what drives it
pub neighbours_in-requires : goal.neighbours_in-requires
neighbours_in-requires c = record { nodes = _; net = c.requires.ready.net; node = c.requires.v_in_bounds }

pub union_at-f-requires : goal.union_at-f-requires
union_at-f-requires c =
    rw c.neighbours_in.ensures (neighbours-below Forward c.requires.ready.net _ c.requires.v_in_bounds)

pub reach_back-b-requires : goal.reach_back-b-requires
reach_back-b-requires c =
    record {
      net = c.requires.ready.net;
      v_in_bounds = c.requires.v_in_bounds;
    }

-- ---- those that stay
pub returns : goal.returns
unfolding neighbours_in
returns c =
    strike-unions ((tables c.args.masks.now c.args.offsets.now c.args.targets.now)) c.args.old.now c.args.v c.requires.one_way_value (c.union_at-f.ensures ∙ ap (union_at c.args.old.now) c.neighbours_in.ensures)
    c.reach_back-b.ensures c.parts_left.ensures

pub parts_left-requires : goal.parts_left-requires
parts_left-requires c = c.requires.ready.masks
