-- `call_test_board::test_board` meets its contract: a number is out of its range, or the bytes are too few, or the test board is made. Assumes nothing.
use Rattle.base_lists.specs.Kit.{◌≡◌, ◌∙◌, sym, false, true, ◌≤◌, ◌<◌, ◌+◌, ◌*◌, length, arith}
use Rattle.base_lists.proofs.Tests.{true-T}
use Rattle.test_board.specs.Board.{sizes_in_range}
use Rattle.test_board.proofs.Board.{in-range}
use Rattle.call_test_board.proofs.Making.{loading-outside, loading-short, loading-made}
use Rattle.call_test_board.proofs.test_board.Goals as goal
use Rattle.call_test_board.proofs.test_board.Goals.{After-in_range-fits}

-- what the test of the ranges says
outside : (c : After-in_range-fits) → c.in_range-fits.result ≡ false → sizes_in_range c.args.n c.args.m c.args.k ≡ false
outside c e = sym c.in_range-fits.ensures ∙ e

inside : (c : After-in_range-fits) → c.in_range-fits.result ≡ true → sizes_in_range c.args.n c.args.m c.args.k ≡ true
inside c e = sym c.in_range-fits.ensures ∙ e

pub returns-then-not-fits : goal.returns-then-not-fits
returns-then-not-fits c =
    loading-outside c.args.seed c.args.n c.args.m c.args.k c.args.out.now (outside (goal.at.returns-then-not-fits c).After-in_range-fits c.if-not-fits.true)

pub returns-then-is_short : goal.returns-then-is_short
returns-then-is_short c =
    let short : length c.args.out.now < 4 + 2 * c.args.n + 4 * c.args.m = c.if-is_short.true in
    loading-short c.args.seed c.args.n c.args.m c.args.k c.args.out.now (inside (goal.at.returns-then-is_short c).After-in_range-fits c.if-not-fits.false) (omega arith)

pub make-requires : goal.make-requires
make-requires c =
    let room : 4 + 2 * c.args.n + 4 * c.args.m ≤ length c.args.out.now = c.if-is_short.false in
    (in-range c.args.n c.args.m c.args.k (true-T (inside (goal.at.make-requires c).After-in_range-fits c.if-not-fits.false)), omega arith)

pub returns : goal.returns
returns c =
    let room : 4 + 2 * c.args.n + 4 * c.args.m ≤ length c.args.out.now = c.if-is_short.false in
    loading-made c.args.seed c.args.n c.args.m c.args.k c.args.out.now (inside (goal.at.returns c).After-in_range-fits c.if-not-fits.false) _ _ (omega arith) c.make.ensures
