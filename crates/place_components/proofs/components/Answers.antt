-- `place_components::components` meets its contract. Assumes nothing.
use Rattle.base_lists.specs.Kit.{◌∙◌, ap, replicate, length-take-le}
use Rattle.graph.specs.Search.{far}
use Rattle.place_components.proofs.ComponentNumbers.{numbering_start, numbering-end}
use Rattle.place_components.proofs.components.Goals as goal

pub loop-f-init : goal.loop-f-init
loop-f-init c =
    numbering_start _ (c.fill.ensures ∙ ap (λ m. replicate m far) c.requires.component_of_len.0) c.requires.component_of_len.1

pub number_from-requires : goal.number_from-requires
number_from-requires c =
    record {
      cases = c.requires.cases;
      f_in_bounds = c.loop-f-test.true;
      dist_len = (c.loop-f.auto.dist ∙ length-take-le _ _ c.requires.sets_len_bound, c.loop-f.auto.queue ∙ length-take-le _ _ c.requires.sets_len_bound);
      components_before = c.loop-f.invariant;
    }

pub loop-f-preserved : goal.loop-f-preserved
loop-f-preserved c = c.number_from.ensures

pub returns : goal.returns
returns c = numbering-end c.loop-f-test.false c.loop-f.auto.f-end c.loop-f.invariant
