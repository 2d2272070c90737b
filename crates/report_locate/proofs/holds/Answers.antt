-- `report_locate::holds` meets its contract: the component is reached along matching links; or those of its nodes that the ball has are gathered, all of them
-- where they are as many as it has. Assumes nothing.
use Rattle.std.specs.Prelude.{◌≡◌}
use Rattle.base_lists.specs.Kit.{◌∙◌, sym, ap, length, length-take-le, arith, eqb-true, eqb-false}
use Rattle.base_lists.proofs.Tests.{false-T}
use Rattle.graph.specs.Bfs.{state_of}
use Rattle.place_components.proofs.ComponentNumbers.{match-ready}
use Rattle.report_locate.proofs.Centre.{source-net}
use Rattle.report_locate.proofs.Component.{source-match, reached-lists, reached-held, gathered-cut, gathered-held, gathered-lists}
use Rattle.report_locate.proofs.holds.Goals as goal
use Rattle.report_locate.proofs.holds.Goals.{Joined-size-le-FEW, else-size-le-FEW, then-size-le-FEW+else-reached-size}

pub reach-reached-requires : goal.reach-reached-requires
reach-reached-requires c =
    let (d, q) = c.requires.dist_len in
    record {
      ready = match-ready (source-match c.requires.source_of_some.source);
      c_in_bounds = rw d c.requires.centre_labelled.low;
      sets_len = (sym d, d ∙ sym q);
    }

-- ---- matching links lead to all of it
pub returns-then-reached-size : goal.returns-then-reached-size
unfolding state_of
returns-then-reached-size c =
    let u = rw (c.requires.dist_len.0, c.if-reached-size.true) at c.reach-reached.ensures.until in
    let k = rw c.if-reached-size.true at c.reach-reached.ensures.searching.within in
    let count = length-take-le _ _ k in
    record {
      short = k;
      whole =
          λ _. record {
            comp = c.requires.centre_labelled.comp;
            spread = c.requires.centre_labelled.component.spread;
            lists = reached-lists c.requires.source_of_some.source _ c.requires.centre_labelled.low c.requires.centre_labelled u count;
            held = λ pattern board s. reached-held s _ c.requires.centre_labelled.low c.requires.centre_labelled u count;
          };
      cut = λ e. absurd (false-T e tt);
    }

-- the tables are as long as before
long : (c : Joined-size-le-FEW) → let w = length c.args.whole.now in (length c.if-size-le-FEW.dist ≡ w) × (length c.if-size-le-FEW.queue ≡ w)
long c =
    let (d, q) = c.requires.dist_len in
    elim c.if-size-le-FEW.branch [ then-size-le-FEW+else-reached-size a ↦ (ap length a.dist-is ∙ a.reach-reached.auto.dist ∙ d, ap length a.queue-is ∙ a.reach-reached.auto.queue ∙ q) | else-size-le-FEW a ↦ (ap length a.dist-is ∙ d, ap length a.queue-is ∙ q) ]

pub gather-kept-requires : goal.gather-kept-requires
gather-kept-requires c =
    let (d, q) = long (goal.at.gather-kept-requires c).Joined-size-le-FEW in
    record {
      net = source-net c.requires.source_of_some.source d;
      c_in_bounds = rw d c.requires.centre_labelled.low;
      dist_len = (d ∙ sym q, c.requires.centre_labelled.long ∙ sym d);
      size_bound = omega (arith, c.requires.centre_labelled.component.count, c.requires.centre_labelled.component.lists.list.short);
    }

pub shape_of-dist : goal.shape_of-dist
shape_of-dist c = c.gather-kept.auto.dist ∙ (long (goal.at.shape_of-dist c).Joined-size-le-FEW).0 ∙ sym c.requires.dist_len.0

pub shape_of-queue : goal.shape_of-queue
shape_of-queue c = c.gather-kept.auto.queue ∙ (long (goal.at.shape_of-queue c).Joined-size-le-FEW).1 ∙ sym c.requires.dist_len.1

pub returns : goal.returns
returns c =
    let g = rw (long (goal.at.returns c).Joined-size-le-FEW).0 at c.gather-kept.ensures.1 in
    let size = length-take-le _ _ c.gather-kept.ensures.0 in
    record {
      short = c.gather-kept.ensures.0;
      whole =
          λ e. let all = size ∙ eqb-true _ _ e in record {
            comp = c.requires.centre_labelled.comp;
            spread = c.requires.centre_labelled.component.spread;
            lists = gathered-lists c.requires.source_of_some.source _ c.requires.centre_labelled.low c.requires.centre_labelled g all;
            held = λ pattern board s. gathered-held s _ c.requires.centre_labelled.low c.requires.centre_labelled g all;
          };
      cut = λ e pattern board s. gathered-cut s _ c.requires.centre_labelled.low c.requires.centre_labelled g (λ all. eqb-false _ _ e (sym size ∙ all));
    }
