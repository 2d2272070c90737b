-- `place_mark::mark_nodes` meets its contract. Assumes nothing.
use Rattle.base_lists.specs.Kit.{◌∙◌, sym, refl, arith}
use Rattle.base_lists.specs.List.{Below}
use Rattle.place_mark.proofs.Marks.{fill-next, fill_end, ones-marks}
use Rattle.place_mark.proofs.mark_nodes.Goals as goal

pub loop-v-init : goal.loop-v-init
loop-v-init c = refl

pub bounds-nodes-v : goal.bounds-nodes-v
unfolding Below
bounds-nodes-v c =
    rw (c.loop-v.auto.nodes, c.fill.auto.s) (c.requires c.loop-v.v-index (omega arith))

pub loop-v-preserved : goal.loop-v-preserved
loop-v-preserved c =
    fill-next (λ v. 1) c.args.list.now c.loop-v.nodes c.loop-v.v-index (omega arith) ∙ c.loop-v.invariant

pub returns : goal.returns
returns c =
    sym (fill_end (λ v. 1) c.args.list.now c.loop-v.nodes c.loop-v.v-index c.loop-v-test.false) ∙ c.loop-v.invariant ∙ ones-marks _ c.args.list.now _ c.fill.ensures
