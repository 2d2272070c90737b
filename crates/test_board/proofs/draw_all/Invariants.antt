-- `test_board::draw_all` meets its contract. The loop's invariant: i numbers are drawn and stored, and the state is i steps on. Assumes nothing.
use Rattle.std.specs.Prelude.{◌≡◌, ◌++◌}
use Rattle.base_lists.specs.Kit.{drop}
use Rattle.test_board.specs.Generator.{stepped, draws}
use Rattle.test_board.proofs.draw_all.Given as goal

abbrev pub invariant-loop-i : goal.invariant-loop-i
invariant-loop-i l = (l.state ≡ stepped l.s l.i) × (l.out ≡ draws l.s l.k l.i ++ drop l.i l.initial.out)
