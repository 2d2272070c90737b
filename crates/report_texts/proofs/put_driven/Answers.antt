-- `report_texts::put_driven` meets its contract. Assumes nothing.
use Rattle.std.specs.Prelude.{◌≡◌, ◌<◌}
use Rattle.base_lists.specs.Kit.{ap, ℕ, length, arith}
use Rattle.base_lists.specs.Below.{concat_below}
use Rattle.base_text.proofs.Text.{put-nothing, put_then, put_same, fits-then}
use Rattle.base_lists.specs.List.{Below}
use Rattle.base_lists.proofs.Concat.{concat_below-next}
use Rattle.report_texts.specs.Texts.{driven_text}
use Rattle.report_texts.proofs.Items.{fits-piece}
use Rattle.report_texts.proofs.put_driven.Invariants.{link_to}
use Rattle.report_texts.proofs.put_driven.Goals as goal
use Rattle.report_texts.proofs.put_driven.Goals.{After-node_at-w}

pub loop-i-init : goal.loop-i-init
unfolding concat_below
loop-i-init c = put-nothing

-- the next node is one that the sets are for
known : (c : After-node_at-w) → c.node_at-w.result < length c.args.sets.now
unfolding Below
known c = rw c.node_at-w.ensures (c.requires.below c.loop-i.i (omega arith))

pub bounds-sets-w : goal.bounds-sets-w
bounds-sets-w c = known (goal.at.bounds-sets-w c).After-node_at-w

pub put_link-end-requires : goal.put_link-end-requires
unfolding driven_text
put_link-end-requires c =
    record {
      names = (c.requires.names.0, c.requires.names.2, omega (arith, known (goal.at.put_link-end-requires c).After-node_at-w, c.requires.names.1));
      fits = rw c.node_at-w.ensures
          (fits-then c.loop-i.invariant (fits-piece (length c.args.nodes.now) c.loop-i.i (link_to c.args.nodes.now c.args.driven c.args.sets.now c.args.v) (omega arith) c.requires.fits));
    }

pub loop-i-preserved : goal.loop-i-preserved
loop-i-preserved c =
    put_same (concat_below-next c.loop-i.i (link_to c.args.nodes.now c.args.driven c.args.sets.now c.args.v)) (put_then c.loop-i.invariant (rw c.node_at-w.ensures at c.put_link-end.ensures))

pub returns : goal.returns
unfolding driven_text
returns c =
    let e : c.loop-i.i ≡ length c.args.nodes.now = omega arith in
    put_same (ap (λ (n : ℕ). concat_below n (link_to c.args.nodes.now c.args.driven c.args.sets.now c.args.v)) e) c.loop-i.invariant
