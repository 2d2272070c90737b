-- `test_board::draw_all` meets its contract. The loop's invariant: i numbers are drawn and stored, and the state is i steps on. Assumes nothing.
use Rattle.base_lists.specs.Kit.{refl, arith}
use Rattle.test_board.specs.Generator.{stepped}
use Rattle.test_board.proofs.Generator.{stepped-next}
use Rattle.test_board.proofs.Draws.{draws-none, draws-more}
use Rattle.test_board.proofs.draw_all.Goals as goal

pub loop-i-init : goal.loop-i-init
unfolding stepped
loop-i-init c = (refl, draws-none _ _ _)

pub loop-i-preserved : goal.loop-i-preserved
loop-i-preserved c = (
  rw (c.draw-drawn.ensures.0, c.loop-i.invariant.0, stepped-next) refl,
  rw (c.draw-drawn.ensures.1, c.loop-i.invariant.0, c.loop-i.invariant.1) (draws-more c.args.s c.args.k c.loop-i.i c.args.out.now (omega arith)),
)
