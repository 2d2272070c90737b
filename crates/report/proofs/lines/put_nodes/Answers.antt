-- `report::lines::put_nodes` meets its contract. Assumes nothing.
use Rattle.std.specs.Prelude.{◌≡◌}
use Rattle.base_lists.specs.Kit.{ap, ℕ, length, arith}
use Rattle.base_lists.specs.Below.{concat_below}
use Rattle.base_lists.proofs.Concat.{concat_below-next}
use Rattle.base_text.proofs.Text.{put-nothing, put_then, put_same, fits-then}
use Rattle.report_texts.specs.Texts.{node_text, nodes_text}
use Rattle.report_texts.proofs.Items.{fits-piece}
use Rattle.report.proofs.lines.put_nodes.Goals as goal

pub loop-v-init : goal.loop-v-init
unfolding concat_below
loop-v-init c = put-nothing

pub put_node-end-requires : goal.put_node-end-requires
unfolding nodes_text
put_node-end-requires c =
    record {
      names = c.requires.names;
      v_in_bounds = omega arith;
      fits = fits-then c.loop-v.invariant (fits-piece (length c.args.dist.now) c.loop-v.v (node_text c.args.dist.now) (omega arith) c.requires.fits);
    }

pub loop-v-preserved : goal.loop-v-preserved
loop-v-preserved c =
    put_same (concat_below-next c.loop-v.v (node_text c.args.dist.now)) (put_then c.loop-v.invariant c.put_node-end.ensures)

pub returns : goal.returns
unfolding nodes_text
returns c =
    let e : c.loop-v.v ≡ length c.args.dist.now = omega arith in
    put_same (ap (λ (n : ℕ). concat_below n (node_text c.args.dist.now)) e) c.loop-v.invariant
