-- `call_shelf::compare::judge` meets its contract: what reading the file came to is the verdict. Assumes nothing.
use mathlib.Core.Path.{◌≡◌, sym}
use Rattle.std.proofs.Common.{Err, arith}
use Rattle.std.proofs.lemmas.Grind.{common_steps}
use Rattle.file_format.specs.Reply.{verdict_of}
use Rattle.file_format.proofs.Reading.{loaded-accepted, loaded-refused}
use Rattle.call_shelf.proofs.compare.judge.Goals as goal

pub returns-in_err-load : goal.returns-in_err-load
unfolding verdict_of
returns-in_err-load c =
    let e : c.from_residual.result ≡ Err c.in_err-load.field-0.0 = grind (arith, common_steps) in
    rw e (sym (loaded-refused c.load.ensures c.in_err-load.was))

pub returns : goal.returns
unfolding verdict_of
returns c = sym (loaded-accepted c.load.ensures c.in_ok-load.was)
