-- `table_strike::reach_back` meets its contract: nothing, or the union over what drives the node. Assumes nothing.
use Rattle.base_lists.specs.Kit.{◌∙◌, sym, ap, Bool, cond}
use Rattle.base_bits.specs.Bits.{union_at}
use Rattle.graph.specs.Net.{driving}
use Rattle.graph_neighbours.specs.declared.neighbours.Direction.TheVariants.{Backward}
use Rattle.graph_neighbours.specs.Lookup.{neighbours_in}
use Rattle.graph_neighbours.proofs.Lookup.{neighbours-below}
use Rattle.table_strike.proofs.reach_back.Goals as goal

pub returns-then-one_way : goal.returns-then-one_way
returns-then-one_way c =
    ap (λ (b : Bool). cond b 0 (union_at c.args.sets.now (driving c.args.offsets.now c.args.targets.now c.args.v))) (sym c.if-one_way.true)

pub neighbours_in-requires : goal.neighbours_in-requires
neighbours_in-requires c = record { nodes = _; net = c.requires.net; node = c.requires.v_in_bounds }

pub union_at-requires : goal.union_at-requires
union_at-requires c =
    rw c.neighbours_in.ensures (neighbours-below Backward c.requires.net _ c.requires.v_in_bounds)

pub returns : goal.returns
unfolding neighbours_in
returns c =
    c.union_at.ensures ∙ ap (union_at c.args.sets.now) c.neighbours_in.ensures
    ∙ ap (λ (b : Bool). cond b 0 (union_at c.args.sets.now (driving c.args.offsets.now c.args.targets.now c.args.v))) (sym c.if-one_way.false)
