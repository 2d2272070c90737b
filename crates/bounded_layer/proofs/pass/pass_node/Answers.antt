-- `bounded_layer::pass::pass_node` meets its contract. Of an empty set nothing is kept, so that its neighbours need no look. Assumes nothing.
use Rattle.base_lists.specs.Kit.{◌∙◌, sym, ap, ℕ, arith}
use Rattle.base_bits.specs.Bits.{union_at}
use Rattle.graph_neighbours.proofs.Lookup.{neighbours-below}
use Rattle.bounded_layer.specs.Pass.{kept_within}
use Rattle.bounded_layer.proofs.Sets.{kept-none}
use Rattle.bounded_layer.proofs.pass.pass_node.Goals as goal

pub returns-then-set-eq0 : goal.returns-then-set-eq0
returns-then-set-eq0 c = sym (ap (kept_within _ _) c.if-set-eq0.true ∙ kept-none _ _)

pub neighbours_in-requires : goal.neighbours_in-requires
neighbours_in-requires c = record { nodes = _; net = c.requires.1; node = c.requires.2 }

pub union_at-f-requires : goal.union_at-f-requires
union_at-f-requires c =
    rw c.neighbours_in.ensures (neighbours-below c.args.direction c.requires.1 _ c.requires.2)

pub covered-requires : goal.covered-requires
covered-requires c = rw c.requires.0 (omega arith)

pub returns : goal.returns
returns c =
    c.covered.ensures
    ∙ ap (λ (f : ℕ). kept_within c.args.masks.now f c.args.set)
    (c.union_at-f.ensures ∙ ap (union_at c.args.layer.now) c.neighbours_in.ensures)
