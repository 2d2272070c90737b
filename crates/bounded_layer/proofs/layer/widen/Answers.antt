-- `bounded_layer::layer::widen` meets its contract. The loop's invariant: the first v sets are those of the next layer, and the others as they
-- were. Assumes nothing.
use Rattle.base_lists.specs.Kit.{◌∙◌, ap, ℕ, get_or, arith}
use lib.Bits.{bit_or}
use Rattle.base_lists.specs.List.{tabulate}
use Rattle.base_lists.proofs.Tables.{filled_none, filled-all, filled_next}
use Rattle.base_bits.specs.Bits.{union_at}
use Rattle.graph_neighbours.specs.Lookup.{neighbours_in}
use Rattle.graph_neighbours.proofs.Lookup.{neighbours-below}
use Rattle.bounded_layer.specs.Pass.{next_layer}
use Rattle.bounded_layer.proofs.layer.widen.Invariants.{further}
use Rattle.bounded_layer.proofs.layer.widen.Goals as goal

pub loop-v-init : goal.loop-v-init
loop-v-init c = filled_none _ _

pub neighbours_in-near-requires : goal.neighbours_in-near-requires
neighbours_in-near-requires c =
    record { nodes = _; net = c.requires.net; node = omega (arith, c.requires.layer_len.1) }

pub union_at-requires : goal.union_at-requires
union_at-requires c =
    rw (c.neighbours_in-near.ensures, c.requires.layer_len.0) (neighbours-below c.args.direction c.requires.net _ (omega (arith, c.requires.layer_len.1)))

pub loop-v-preserved : goal.loop-v-preserved
unfolding further
loop-v-preserved c =
    let rule : ℕ → ℕ = further (neighbours_in c.args.direction c.args.offsets.now c.args.targets.now) c.args.old.now c.args.layer.now in
    filled_next rule c.args.next.now c.loop-v.next c.loop-v.v _ (omega arith) c.loop-v.invariant
    (ap (bit_or (get_or c.args.old.now c.loop-v.v 0)) (c.union_at.ensures ∙ ap (union_at c.args.layer.now) c.neighbours_in-near.ensures))

pub returns : goal.returns
unfolding next_layer further
returns c =
    let rule : ℕ → ℕ = further (neighbours_in c.args.direction c.args.offsets.now c.args.targets.now) c.args.old.now c.args.layer.now in
    c.loop-v.invariant ∙ filled-all c.loop-v.v rule c.args.next.now (omega arith) ∙ ap (λ (n : ℕ). tabulate n rule) c.requires.layer_len.1
