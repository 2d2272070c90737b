-- `call_distance::radius` meets its contract: the file is refused, or was measured as it was read. Assumes nothing.
use mathlib.Core.Path.{◌≡◌}
use Rattle.std.proofs.Common.{Err, arith}
use Rattle.std.proofs.lemmas.Grind.{common_steps}
use Rattle.base_lists.specs.Kit.{sym}
use Rattle.file_format.specs.Refusals.{asks_connected}
use Rattle.file_format.specs.Reply.{number_reply}
use Rattle.file_format.proofs.Reading.{loaded-accepted, loaded-refused}
use Rattle.call_distance.proofs.Cases.{radius-refused, radius-replied}
use Rattle.call_distance.proofs.radius.Goals as goal

pub returns-in_err-read : goal.returns-in_err-read
unfolding number_reply
returns-in_err-read c =
    let e : c.from_residual.result ≡ Err c.in_err-read.field-0.0 = grind (arith, common_steps) in
    rw e (sym (radius-refused _ _ (loaded-refused c.load.ensures c.in_err-read.was)))

pub returns : goal.returns
unfolding number_reply asks_connected
returns c =
    rw ((c.load.ensures.held _ c.in_ok-read.was).measured tt) (sym (radius-replied _ (loaded-accepted c.load.ensures c.in_ok-read.was)))
