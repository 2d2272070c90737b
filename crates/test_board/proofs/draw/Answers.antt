-- `test_board::draw` meets its contract. Assumes nothing.
use Rattle.std.specs.Prelude.{◌^◌, ◌/◌, ◌%◌}
use Rattle.base_lists.specs.Kit.{◌∙◌, ap, ℕ, mod-le, arith}
use Rattle.test_board.specs.Generator.{draw}
use Rattle.test_board.proofs.draw.Goals as goal

pub overflow_cast-result-2 : goal.overflow_cast-result-2
overflow_cast-result-2 c = omega (arith, mod-le c.top.result c.args.k)

pub returns : goal.returns
unfolding draw
returns c =
    (c.step-state.ensures, ap (λ (x : ℕ). x % c.args.k) (c.top.ensures ∙ ap (λ (s : ℕ). s / 2 ^ 16) c.step-state.ensures))
