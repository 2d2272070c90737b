-- `file_role::check_counts` meets its contract: each return rewrites with the tests that led there. Assumes nothing.
use Rattle.base_lists.specs.Kit.{◌∙◌, sym, eq-eqb, ne_eqb}
use Rattle.file_format.specs.Refusals.{turned, by_number}
use Rattle.file_format.specs.Reply.{verdict_of}
use Rattle.file_role.proofs.check_counts.Goals as goal

pub returns-then-not-in_range : goal.returns-then-not-in_range
unfolding verdict_of by_number turned
returns-then-not-in_range c = rw (c.refusal.ensures, sym c.in_range.ensures ∙ c.if-not-in_range.true)

pub returns-then-length-asked : goal.returns-then-length-asked
unfolding verdict_of by_number turned
returns-then-length-asked c =
    rw (c.refusal-then-length-asked.ensures, sym c.in_range.ensures ∙ c.if-not-in_range.false, ne_eqb _ _ c.if-length-asked.true)

pub returns : goal.returns
unfolding verdict_of by_number
returns c =
    rw (sym c.in_range.ensures ∙ c.if-not-in_range.false, eq-eqb _ _ c.if-length-asked.false)
