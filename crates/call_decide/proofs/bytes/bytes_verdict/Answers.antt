-- `call_decide::bytes::bytes_verdict` meets its contract: the first condition that holds decides, or none holds.
-- Assumes nothing.
use Rattle.base_lists.specs.Kit.{le-ltb, lt-ltb, eq-eqb, ne_eqb}
use Rattle.file_format.specs.Refusals.{first, centre_outside, other_length}
use Rattle.file_format.specs.Reply.{verdict_of}
use Rattle.call_decide.proofs.bytes.bytes_verdict.Goals as goal

pub returns-then-n-centre : goal.returns-then-n-centre
unfolding verdict_of first centre_outside
returns-then-n-centre c = rw (le-ltb _ _ c.if-n-centre.true)

pub returns-then-nodes-n : goal.returns-then-nodes-n
unfolding verdict_of first centre_outside other_length
returns-then-nodes-n c = rw (lt-ltb _ _ c.if-n-centre.false, ne_eqb _ _ c.if-nodes-n.true)

pub returns-then-links-m : goal.returns-then-links-m
unfolding verdict_of first centre_outside other_length
returns-then-links-m c = rw (lt-ltb _ _ c.if-n-centre.false, eq-eqb _ _ c.if-nodes-n.false, ne_eqb _ _ c.if-links-m.true)

pub returns : goal.returns
unfolding verdict_of first centre_outside other_length
returns c =
    rw (lt-ltb _ _ c.if-n-centre.false, eq-eqb _ _ c.if-nodes-n.false, eq-eqb _ _ c.if-links-m.false)
