-- `bounded_layer::pass::pass` meets its contract. The loop's invariant: the first v sets are what is left, and the others as they were. Assumes nothing.
use Rattle.base_lists.specs.Kit.{◌∙◌, ap, ℕ, arith}
use Rattle.base_lists.proofs.Tables.{filled_none, filled-rest, filled-all, filled_next}
use Rattle.base_bits.specs.Bits.{union_at}
use Rattle.graph_neighbours.specs.Lookup.{neighbours_in}
use Rattle.bounded_layer.specs.Pass.{kept_within, pass_table}
use Rattle.bounded_layer.proofs.pass.pass.Invariants.{left}
use Rattle.bounded_layer.proofs.pass.pass.Goals as goal

pub loop-v-init : goal.loop-v-init
loop-v-init c = filled_none _ _

pub pass_node-requires : goal.pass_node-requires
pass_node-requires c =
    (c.requires.0, c.requires.1, omega (arith, c.requires.2))

pub loop-v-preserved : goal.loop-v-preserved
unfolding left
loop-v-preserved c =
    let near = neighbours_in c.args.direction c.args.offsets.now c.args.targets.now in
    let rule : ℕ → ℕ = left near c.args.masks.now c.args.layer.now c.args.new.now in
    filled_next rule c.args.new.now c.loop-v.new c.loop-v.v _ (omega arith) c.loop-v.invariant
    (c.pass_node.ensures
    ∙ ap (kept_within c.args.masks.now (union_at c.args.layer.now (near c.loop-v.v)))
    (filled-rest c.loop-v.v rule c.loop-v.new c.args.new.now c.loop-v.invariant))

pub returns : goal.returns
unfolding pass_table left
returns c =
    c.loop-v.invariant ∙ filled-all c.loop-v.v _ c.args.new.now (omega arith)
