-- `file_pair::read_pair` meets its contract: the pattern is refused, or the board, or both are read. Assumes nothing.
use mathlib.Core.Path.{◌≡◌}
use Rattle.std.proofs.Common.{Err, arith}
use Rattle.std.proofs.lemmas.Grind.{common_steps}
use Rattle.file_pair.proofs.Both.{pair-pattern, pair-board, pair-both}
use Rattle.file_pair.proofs.read_pair.Goals as goal

pub returns-in_err-drawn : goal.returns-in_err-drawn
returns-in_err-drawn c =
    let e : c.from_residual.result ≡ Err c.in_err-drawn.field-0.0 = grind (arith, common_steps) in
    rw e (pair-pattern _ _ _ _ _ c.load.ensures c.in_err-drawn.was)

pub returns : goal.returns
returns c = pair-both _ _ _ _ _ c.load.ensures c.in_ok-drawn.was c.load-2.ensures c.in_ok-given.was

pub returns-in_err-given : goal.returns-in_err-given
returns-in_err-given c =
    let e : c.from_residual-in_err-given.result ≡ Err c.in_err-given.field-0.0 = grind (arith, common_steps) in
    rw e (pair-board _ _ _ _ _ c.load.ensures c.in_ok-drawn.was c.load-2.ensures c.in_err-given.was)
