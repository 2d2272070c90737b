-- `proposal_marks::marks::link_placed` meets its contract. Assumes nothing.
use Rattle.base_lists.specs.Kit.{◌∙◌, refl, ap₂, eq-eqb, ne_eqb}
use Rattle.base_bits.specs.Bits.{intersects}
use Rattle.graph.specs.Search.{far}
use Rattle.place.specs.Bytes.{driven_by}
use Rattle.proposal_marks.specs.Link.{link_placed}
use Rattle.proposal_marks.proofs.marks.link_placed.Goals as goal

pub returns-then-dist-i : goal.returns-then-dist-i
unfolding link_placed
returns-then-dist-i c = rw (eq-eqb _ far c.if-dist-i.true)

pub returns : goal.returns
unfolding link_placed driven_by
returns c = rw (ne_eqb _ far c.if-dist-i.false) (c.meets.ensures ∙ ap₂ intersects c.driven_parts.ensures refl)
