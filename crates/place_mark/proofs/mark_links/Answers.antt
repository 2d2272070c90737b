-- `place_mark::mark_links` meets its contract. Assumes nothing.
use Rattle.base_lists.specs.Kit.{◌∙◌, sym, ap, refl, arith}
use Rattle.base_lists.specs.List.{Below}
use Rattle.table.specs.Prepared.{tables}
use Rattle.place.specs.Bytes.{mark_starts}
use Rattle.place_mark.proofs.Marks.{starts-next, starts-end, starts-marks}
use Rattle.place_mark.proofs.mark_links.Goals as goal

pub loop-v-init : goal.loop-v-init
loop-v-init c = refl

pub mark_start-requires : goal.mark_start-requires
unfolding Below
mark_start-requires c =
    let node = c.requires.node_list.below c.loop-v.v-index (omega arith) in
    record {
      ready = c.requires.ready;
      v_in_bounds = node;
      v_in_bounds_2 = rw (c.loop-v.auto.bytes, c.fill.auto.s) (c.requires.links_fit _ node);
    }

pub loop-v-preserved : goal.loop-v-preserved
loop-v-preserved c =
    ap (mark_starts ((tables c.args.masks.now c.args.offsets.now c.args.targets.now)) c.args.sets.now _) c.mark_start.ensures
    ∙ starts-next ((tables c.args.masks.now c.args.offsets.now c.args.targets.now)) c.args.sets.now c.args.list.now c.loop-v.bytes c.loop-v.v-index (omega arith)
    ∙ c.loop-v.invariant

pub returns : goal.returns
returns c =
    sym (starts-end ((tables c.args.masks.now c.args.offsets.now c.args.targets.now)) c.args.sets.now c.args.list.now c.loop-v.bytes c.loop-v.v-index c.loop-v-test.false)
    ∙ c.loop-v.invariant
    ∙ starts-marks ((tables c.args.masks.now c.args.offsets.now c.args.targets.now)) c.args.sets.now _ c.args.list.now _ c.fill.ensures
