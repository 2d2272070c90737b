-- `call_decide::place_verdict` meets its contract: the centre is outside, or a table is short, or neither. Assumes
-- nothing.
use Rattle.std.specs.Prelude.{◌≡◌}
use Rattle.base_lists.specs.Kit.{◌∙◌, sym, ap, Bool, false, true, cond, le-ltb, lt-ltb}
use Rattle.file_format.specs.Refusals.{accept, refuse, first, centre_outside}
use Rattle.file_format.specs.Reply.{verdict_of}
use Rattle.call_decide.specs.Decide.{too_short, room_conditions}
use Rattle.call_decide.proofs.place_verdict.Goals as goal
use Rattle.call_decide.proofs.place_verdict.Goals.{After-tables_fit-room}

pub returns-then-n-centre : goal.returns-then-n-centre
unfolding verdict_of first centre_outside
returns-then-n-centre c = rw (le-ltb _ _ c.if-n-centre.true)

-- what the test of the lengths comes to
tested : (c : After-tables_fit-room) (b : Bool) → c.tables_fit-room.result ≡ b →
    cond b accept (refuse too_short) ≡ first (room_conditions c.args.n c.args.m c.args.lent.nodes c.args.lent.links c.args.lent.table c.args.lent.distances)
tested c b e = sym (c.tables_fit-room.ensures ∙ ap (λ (x : Bool). cond x accept (refuse too_short)) e)

pub returns-then-not-room : goal.returns-then-not-room
unfolding verdict_of first centre_outside
returns-then-not-room c = rw (lt-ltb _ _ c.if-n-centre.false) (tested (goal.at.returns-then-not-room c).After-tables_fit-room false (c.if-not-room.true))

pub returns : goal.returns
unfolding verdict_of first centre_outside
returns c = rw (lt-ltb _ _ c.if-n-centre.false) (tested (goal.at.returns c).After-tables_fit-room true (c.if-not-room.false))
