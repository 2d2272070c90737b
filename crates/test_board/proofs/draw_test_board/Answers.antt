-- `test_board::draw_test_board` meets its contract: the kinds are drawn from the seed on, and the pairs from where they left the state. Assumes nothing.
use Rattle.std.specs.Prelude.{◌++◌, ◌*◌}
use Rattle.base_lists.specs.Kit.{◌∙◌, ap, ℕ, drop}
use Rattle.test_board.specs.Generator.{draws}
use Rattle.test_board.specs.Board.{kinds_drawn, pairs_drawn}
use Rattle.test_board.proofs.draw_test_board.Goals as goal

pub returns : goal.returns
unfolding kinds_drawn pairs_drawn
returns c =
    record {
      kinds_after = c.draw_all-state.ensures.out_after;
      pairs_after = c.draw_all.ensures.out_after
          ∙ ap (λ (s : ℕ). draws s c.args.n (2 * c.args.m) ++ drop (2 * c.args.m) c.args.pairs.now) c.draw_all-state.ensures.value;
    }
