-- `call_decide::ball::ball_verdict` meets its contract: the first condition that holds decides, or none holds. Assumes nothing.
use Rattle.base_lists.specs.Kit.{arith, le-ltb, lt-ltb}
use Rattle.file_format.specs.Refusals.{first, centre_outside, short_table}
use Rattle.file_format.specs.Reply.{verdict_of}
use Rattle.call_decide.proofs.ball.ball_verdict.Goals as goal

pub returns-then-n-centre : goal.returns-then-n-centre
unfolding verdict_of first centre_outside
returns-then-n-centre c =
    rw (le-ltb c.args.centre c.args.n (omega (arith, c.if-n-centre.true)))

pub returns-then-lent-n : goal.returns-then-lent-n
unfolding verdict_of first centre_outside short_table
returns-then-lent-n c =
    rw (lt-ltb c.args.centre c.args.n (omega (arith, c.if-n-centre.false)), lt-ltb _ _ c.if-lent-n.true)

pub returns : goal.returns
unfolding verdict_of first centre_outside short_table
returns c =
    rw (lt-ltb c.args.centre c.args.n (omega (arith, c.if-n-centre.false)), le-ltb _ _ c.if-lent-n.false)
