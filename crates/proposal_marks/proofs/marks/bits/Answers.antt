-- `proposal_marks::marks::bits` meets its contract. Assumes nothing.
use Rattle.base_lists.specs.Kit.{rules}
use Rattle.proposal_marks.proofs.Tests.{bits-same}
use Rattle.proposal_marks.proofs.marks.bits.Goals as goal

pub returns : goal.returns
returns c = bits-same _ _ (search rules)
