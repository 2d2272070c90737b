-- `file_check::check_links` meets its contract: 4 or 5 by the links' order; and the radius of a pattern, which is `far` where it is not
-- connected. Assumes nothing.
use Rattle.std.specs.Prelude.{◌≡◌}
use Rattle.std.proofs.Common.{Err, arith}
use Rattle.std.proofs.lemmas.Grind.{common_steps}
use Rattle.base_lists.specs.Kit.{◌∙◌, sym, ap}
use Rattle.base_lists.proofs.Tests.{true-T, false-T}
use Rattle.file_format.specs.Refusals.{link_order_number, by_number}
use Rattle.file_format.specs.Reply.{verdict_of}
use Rattle.file_format.proofs.Accepted.{starts-below, ends-below}
use Rattle.file_format.proofs.Refusals.{ordered, number-order, number-accept, number-none, number-refused, number-turned, range-asked}
use Rattle.file_check.proofs.Widths.{pattern_number, unasked-number}
use Rattle.file_check.proofs.check_links.Goals as goal
use Rattle.file_check.proofs.check_links.Goals.{In_ok-check_order}

-- the links are in order
order : (c : In_ok-check_order) → link_order_number c.args.n c.args.starts.now c.args.ends.now ≡ 0
unfolding verdict_of
order c = number-none c.args.role _ (sym c.check_order.ensures ∙ ap verdict_of c.in_ok-check_order.was)

pub returns-in_err-check_order : goal.returns-in_err-check_order
unfolding verdict_of
returns-in_err-check_order c =
    let e : c.from_residual.result ≡ Err c.in_err-check_order.field-0.0 = grind (arith, common_steps) in
    let (some, is) = number-refused c.args.role _ (sym c.check_order.ensures ∙ ap verdict_of c.in_err-check_order.was) in
    rw e
    (record {
      verdict = sym (ap (by_number c.args.role) (number-order _ _ _ _ some) ∙ number-turned _ _ some ∙ is);
      measured = λ width q. cc;
    })

pub returns-then-not-asks_connected : goal.returns-then-not-asks_connected
unfolding verdict_of
returns-then-not-asks_connected c =
    let asked = sym c.asks_connected.ensures ∙ c.if-not-asks_connected.true in
    record {
      verdict = sym (number-accept _ _ (unasked-number _ _ _ _ asked (order (goal.at.returns-then-not-asks_connected c).In_ok-check_order)));
      measured = λ width q t. absurd (false-T asked t);
    }

pub radius-radius-requires : goal.radius-radius-requires
radius-radius-requires c =
    let below = (ordered _ _ _ (order (goal.at.radius-radius-requires c).In_ok-check_order)).0 in
    let (_, few, _) = range-asked _ _ _ (true-T (sym c.asks_connected.ensures ∙ c.if-not-asks_connected.false)) c.requires.0 in
    record {
      starts_len = (c.requires.1, few);
      t = (starts-below _ _ _ below, ends-below _ _ _ below);
    }

pub returns-in_err-check_width : goal.returns-in_err-check_width
unfolding verdict_of
returns-in_err-check_width c =
    let e : c.from_residual-in_err-check_width.result ≡ Err c.in_err-check_width.field-0.0 = grind (arith, common_steps) in
    let asked = sym c.asks_connected.ensures ∙ c.if-not-asks_connected.false in
    let number = pattern_number _ _ _ _ _ asked c.requires.0 (order (goal.at.returns-in_err-check_width c).In_ok-check_order) c.radius-radius.ensures in
    rw e
    (record {
      verdict = sym (ap verdict_of c.in_err-check_width.was) ∙ c.check_width.ensures ∙ ap (by_number c.args.role) (sym number);
      measured = λ width q. cc;
    })

pub returns : goal.returns
unfolding verdict_of
returns c =
    let asked = sym c.asks_connected.ensures ∙ c.if-not-asks_connected.false in
    let number = pattern_number _ _ _ _ _ asked c.requires.0 (order (goal.at.returns c).In_ok-check_order) c.radius-radius.ensures in
    record {
      verdict = sym (ap verdict_of c.in_ok-check_width.was) ∙ c.check_width.ensures ∙ ap (by_number c.args.role) (sym number);
      measured = λ width q t. let is : c.radius-radius.result ≡ width = cc in sym is ∙ c.radius-radius.ensures;
    }
