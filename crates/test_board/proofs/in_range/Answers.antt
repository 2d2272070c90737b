-- `test_board::in_range` meets its contract: each return rewrites with the tests that led there. Assumes nothing.
use Rattle.std.specs.Prelude.{◌&&◌}
use Rattle.base_lists.specs.Kit.{sym, ap, Bool, leb, le-leb, lt-leb}
use Rattle.test_board.specs.Board.{sizes_in_range}
use Rattle.test_board.proofs.in_range.Goals as goal

pub returns-then-n-lt1 : goal.returns-then-n-lt1
unfolding sizes_in_range
returns-then-n-lt1 c =
    ap (λ (b : Bool). b && (leb c.args.n 512 && (leb c.args.m 4096 && (leb 1 c.args.k && leb c.args.k 65536)))) (sym (lt-leb _ _ c.if-n-lt1.true))

pub returns-then-n-gt512 : goal.returns-then-n-gt512
unfolding sizes_in_range
returns-then-n-gt512 c = simp (le-leb _ _ c.if-n-lt1.false, lt-leb _ _ c.if-n-gt512.true)

pub returns-then-m-gt4096 : goal.returns-then-m-gt4096
unfolding sizes_in_range
returns-then-m-gt4096 c = simp (le-leb _ _ c.if-n-lt1.false, le-leb _ _ c.if-n-gt512.false, lt-leb _ _ c.if-m-gt4096.true)

pub returns-then-k-lt1 : goal.returns-then-k-lt1
unfolding sizes_in_range
returns-then-k-lt1 c =
    simp (
      le-leb _ _ c.if-n-lt1.false,
      le-leb _ _ c.if-n-gt512.false,
      le-leb _ _ c.if-m-gt4096.false,
      lt-leb _ _ c.if-k-lt1.true,
    )

pub returns : goal.returns
unfolding sizes_in_range
returns c =
    simp (
      le-leb _ _ c.if-n-lt1.false,
      le-leb _ _ c.if-n-gt512.false,
      le-leb _ _ c.if-m-gt4096.false,
      le-leb _ _ c.if-k-lt1.false,
    )
