-- `session_cut::at_most` meets its contract. Assumes nothing.
use Rattle.base_lists.specs.Kit.{sym}
use Rattle.session.proofs.Tables.{bounded-in, bounded-out}
use Rattle.session_cut.proofs.at_most.Goals as goal

pub returns-then-x-most : goal.returns-then-x-most
returns-then-x-most c = sym (bounded-in _ _ c.if-x-most.true)

pub returns : goal.returns
returns c = sym (bounded-out _ _ c.if-x-most.false)
