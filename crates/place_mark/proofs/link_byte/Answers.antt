-- `place_mark::link_byte` meets its contract, by the test as it comes out. Assumes nothing.
use Rattle.base_lists.specs.Kit.{◌∙◌, sym}
use Rattle.place_mark.proofs.link_byte.Goals as goal

pub returns-then-meets : goal.returns-then-meets
returns-then-meets c = simp (sym c.meets.ensures ∙ c.if-meets.true)

pub returns : goal.returns
returns c = simp (sym c.meets.ensures ∙ c.if-meets.false)
