-- `session_cut::all_or_none` meets its contract: the union of the sets says whether every part occurs. Assumes nothing.
use Rattle.base_lists.specs.Kit.{◌∙◌, sym, ap, eq-eqb, ne_eqb}
use Rattle.base_bits.specs.Bits.{size_of}
use Rattle.session.specs.Tables.{occur_or_none}
use Rattle.session_cut.proofs.all_or_none.Goals as goal

pub returns-then-size-parts : goal.returns-then-size-parts
unfolding occur_or_none
returns-then-size-parts c =
    let sized = ap size_of (sym c.occurring.ensures) ∙ sym c.size.ensures in
    rw (eq-eqb _ _ (sized ∙ c.if-size-parts.true))

pub returns : goal.returns
unfolding occur_or_none
returns c =
    let sized = ap size_of (sym c.occurring.ensures) ∙ sym c.size.ensures in
    rw (ne_eqb _ _ (λ e. c.if-size-parts.false (sym sized ∙ e))) c.fill.ensures
