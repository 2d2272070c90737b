-- `report::lines::put_links` meets its contract. Assumes nothing.
use Rattle.std.specs.Prelude.{◌≡◌}
use Rattle.base_lists.specs.Kit.{ap, ℕ, length, arith}
use Rattle.base_lists.specs.Below.{concat_below}
use Rattle.base_lists.proofs.Concat.{concat_below-next}
use Rattle.base_text.proofs.Text.{put-nothing, put_then, put_same, fits-then}
use Rattle.table.specs.Prepared.{tables}
use Rattle.report_texts.specs.Texts.{start_text, links_text}
use Rattle.report_texts.proofs.Items.{fits-piece}
use Rattle.report.proofs.lines.put_links.Goals as goal

pub loop-v-init : goal.loop-v-init
unfolding concat_below
loop-v-init c = put-nothing

pub put_start-end-requires : goal.put_start-end-requires
unfolding links_text
put_start-end-requires c =
    record {
      names = c.requires.names;
      sets_len = c.requires.sets_len;
      ready = c.requires.ready;
      v_in_bounds = omega arith;
      fits = fits-then c.loop-v.invariant (fits-piece (length c.args.dist.now) c.loop-v.v ((start_text (tables c.args.masks.now c.args.offsets.now c.args.targets.now) c.args.dist.now c.args.sets.now)) (omega arith) c.requires.fits);
    }

pub loop-v-preserved : goal.loop-v-preserved
loop-v-preserved c =
    put_same (concat_below-next c.loop-v.v ((start_text (tables c.args.masks.now c.args.offsets.now c.args.targets.now) c.args.dist.now c.args.sets.now))) (put_then c.loop-v.invariant c.put_start-end.ensures)

pub returns : goal.returns
unfolding links_text
returns c =
    let e : c.loop-v.v ≡ length c.args.dist.now = omega arith in
    put_same (ap (λ (n : ℕ). concat_below n ((start_text (tables c.args.masks.now c.args.offsets.now c.args.targets.now) c.args.dist.now c.args.sets.now))) e) c.loop-v.invariant
