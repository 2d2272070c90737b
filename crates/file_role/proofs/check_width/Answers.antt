-- `file_role::check_width` meets its contract: each return rewrites with the tests that led there. Assumes nothing.
use Rattle.base_lists.specs.Kit.{eq-eqb, ne_eqb, le-ltb, lt-ltb}
use Rattle.graph.specs.Search.{far}
use Rattle.file_format.specs.Refusals.{widest, width_number, turned, by_number}
use Rattle.file_format.specs.Reply.{verdict_of}
use Rattle.file_role.proofs.check_width.Goals as goal

pub returns-then-radius-eq65535 : goal.returns-then-radius-eq65535
unfolding width_number verdict_of by_number turned
returns-then-radius-eq65535 c = rw c.refusal.ensures (simp (eq-eqb c.args.radius far c.if-radius-eq65535.true))

pub returns-then-radius-gt-MAX_RADIUS : goal.returns-then-radius-gt-MAX_RADIUS
unfolding width_number verdict_of by_number turned
returns-then-radius-gt-MAX_RADIUS c = rw c.refusal-then-radius-gt-MAX_RADIUS.ensures (simp (ne_eqb c.args.radius far c.if-radius-eq65535.false, lt-ltb widest c.args.radius c.if-radius-gt-MAX_RADIUS.true))

pub returns : goal.returns
unfolding width_number verdict_of by_number
returns c = simp (ne_eqb c.args.radius far c.if-radius-eq65535.false, le-ltb widest c.args.radius c.if-radius-gt-MAX_RADIUS.false)
