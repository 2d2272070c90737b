-- `call_shelf::strings::string_at` meets its contract. The loop's invariant: the strings passed lie before the place. Assumes nothing.
use Rattle.std.specs.Prelude.{◌+◌}
use Rattle.base_lists.specs.Kit.{◌∙◌, sym, ap, ℕ, length, length-take-le, get_or-take, arith}
use Rattle.call_shelf.specs.Strings.{capped}
use Rattle.call_shelf.proofs.Cutting.{cut-past, passed_none, passed-more, passed-last}
use Rattle.call_shelf.proofs.strings.string_at.Goals as goal

pub returns-then-lengths-i : goal.returns-then-lengths-i
returns-then-lengths-i c = sym (cut-past _ _ _ c.if-lengths-i.true)

pub loop-size-init : goal.loop-size-init
loop-size-init c = passed_none _ _

pub loop-size-preserved : goal.loop-size-preserved
loop-size-preserved c =
    passed-more c.loop-size.invariant (omega (arith, length-take-le c.args.i c.args.lengths.now (omega arith))) _
    (c.step-at.ensures.0 ∙ ap (λ (k : ℕ). capped (length c.args.bytes.now) (c.loop-size.at + k)) (get_or-take c.args.i c.args.lengths.now c.loop-size.size-index 0 (omega (arith, length-take-le c.args.i c.args.lengths.now (omega arith)))))

pub step-at-requires : goal.step-at-requires
step-at-requires c = c.loop-size.invariant.within

pub step-end-requires : goal.step-end-requires
step-end-requires c = c.loop-size.invariant.within

pub returns : goal.returns
returns c = passed-last c.loop-size.invariant _ (omega (arith, length-take-le c.args.i c.args.lengths.now (omega arith))) (omega arith) _ c.step-end.ensures.0
