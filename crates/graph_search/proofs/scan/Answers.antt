-- `graph_search::scan` meets its contract. The loop's invariant: from the state that the tables stand for, the visits that are left
-- lead to the state that all of them lead to. Assumes nothing.
use Rattle.base_lists.specs.Kit.{◌∙◌, sym, refl, arith}
use Rattle.base_lists.specs.List.{Below}
use Rattle.graph.proofs.BfsSteps.{scan-next, scan-end}
use Rattle.graph_search.proofs.scan.Goals as goal

pub loop-v-init : goal.loop-v-init
loop-v-init c = (c.requires.searching, refl)

pub visit-tail-requires : goal.visit-tail-requires
unfolding Below
visit-tail-requires c =
    record {
      searching = c.loop-v.invariant.0;
      v_in_bounds = rw c.loop-v.auto.dist (c.requires.below c.loop-v.v-index (omega arith));
      d_lt_far = c.requires.d_lt_far;
    }

pub loop-v-preserved : goal.loop-v-preserved
loop-v-preserved c = (
  c.visit-tail.ensures.kept,
  scan-next c.args.d _ _ c.args.part.now c.loop-v.v-index (omega arith) c.visit-tail.ensures.state
      ∙ c.loop-v.invariant.1,
)

pub returns : goal.returns
returns c =
    record { state = sym (scan-end c.args.d _ c.args.part.now c.loop-v.v-index (omega arith)) ∙ c.loop-v.invariant.1; kept = c.loop-v.invariant.0 }
