-- `file_check::check_circuit` meets its contract: each return rewrites with the tests that led there. Assumes nothing.
use Rattle.std.specs.Prelude.{◌≡◌}
use Rattle.std.proofs.Common.{Err, arith}
use Rattle.std.proofs.lemmas.Grind.{common_steps}
use Rattle.base_lists.specs.Kit.{◌∙◌, sym, ap, true, length, eq-eqb, ne_eqb}
use Rattle.base_lists.proofs.Tests.{true-T}
use Rattle.file_format.specs.Refusals.{turned, by_number, link_number}
use Rattle.file_format.specs.Reply.{verdict_of}
use Rattle.file_format.specs.Role.{in_range}
use Rattle.file_check.specs.Circuit.{circuit_number}
use Rattle.file_check.proofs.check_circuit.Goals as goal
use Rattle.file_check.proofs.check_circuit.Goals.{Else-m-ends, Else-package_count}

-- N and M are in the role's range
ranged : (c : Else-m-ends) → in_range c.args.role c.args.n (length c.args.starts.now) ≡ true
ranged c = sym c.in_range.ensures ∙ c.if-not-in_range.false

-- what is left is the links
linked : (c : Else-package_count) → circuit_number c.args.role c.args.edition c.args.n c.args.given (c.args.starts.now) (c.args.ends.now) ≡ link_number c.args.role c.args.n c.args.starts.now c.args.ends.now
unfolding circuit_number
linked c =
    rw (sym c.in_range.ensures ∙ c.if-not-in_range.false, eq-eqb _ _ c.if-m-ends.false, ← c.package_count.ensures.0, ← c.package_count-2.ensures.0, eq-eqb _ _ c.if-package_count.false)

pub returns-then-not-in_range : goal.returns-then-not-in_range
unfolding circuit_number verdict_of by_number turned
returns-then-not-in_range c = rw (c.refusal.ensures, sym c.in_range.ensures ∙ c.if-not-in_range.true)

pub returns-then-m-ends : goal.returns-then-m-ends
unfolding circuit_number verdict_of by_number turned
returns-then-m-ends c =
    rw (c.refusal-then-m-ends.ensures, sym c.in_range.ensures ∙ c.if-not-in_range.false, ne_eqb _ _ c.if-m-ends.true)

pub returns-then-package_count : goal.returns-then-package_count
unfolding circuit_number verdict_of by_number turned
returns-then-package_count c =
    rw (c.refusal-then-package_count.ensures, ranged (goal.at.returns-then-package_count c).Else-m-ends, eq-eqb _ _ c.if-m-ends.false, ← c.package_count.ensures.0, ← c.package_count-2.ensures.0, ne_eqb _ _ c.if-package_count.true)

pub check_links-requires : goal.check_links-requires
check_links-requires c = (true-T (ranged (goal.at.check_links-requires c).Else-m-ends), c.if-m-ends.false)

pub returns-in_err-check_links : goal.returns-in_err-check_links
unfolding verdict_of
returns-in_err-check_links c =
    let e : c.from_residual.result ≡ Err c.in_err-check_links.field-0.0 = grind (arith, common_steps) in
    rw (e, linked (goal.at.returns-in_err-check_links c).Else-package_count) (sym (ap verdict_of c.in_err-check_links.was) ∙ c.check_links.ensures.verdict)

pub returns : goal.returns
unfolding verdict_of
returns c = rw (linked (goal.at.returns c).Else-package_count) (sym (ap verdict_of c.in_ok-check_links.was) ∙ c.check_links.ensures.verdict)
