use Rattle.std.proofs.Common.{◌≡◌, sym, ap, arith}
use Rattle.std.proofs.Math.Path.{◌∙◌}
use Rattle.shelf_files.specs.Reading.{shelf_end}
use Rattle.shelf_files.proofs.Reading.{further-place, reached-none, reached-more, absent-ends, unreadable-ends, all_read}
use Rattle.shelf_files.proofs.read_all.Goals as goal

pub loop-i-init : goal.loop-i-init
loop-i-init c = (omega arith, reached-none _)

pub returns-in-Ends : goal.returns-in-Ends
returns-in-Ends c =
    let one = c.read_one-found.ensures.within in
    absent-ends _ _ _ c.read_one-found.result (omega arith) one.0 c.loop-i.invariant.1 (sym c.in-Ends.ensures) ∙ ap shelf_end (sym one.1)

pub returns-in-GivesUp : goal.returns-in-GivesUp
returns-in-GivesUp c =
    let one = c.read_one-found.ensures.within in
    unreadable-ends _ _ _ c.read_one-found.result (omega arith) one.0 c.loop-i.invariant.1 (sym c.in-GivesUp.ensures) ∙ ap shelf_end (sym one.1)

pub loop-i-preserved : goal.loop-i-preserved
loop-i-preserved c =
    let one = c.read_one-found.ensures.within in (
      omega (arith, further-place c.read_one-found.result _ _ one.0 (sym c.in-Further.ensures)),
      rw one.1 (reached-more _ _ _ _ c.read_one-found.result (omega arith) one.0 c.loop-i.invariant.1 (sym c.in-Further.ensures)),
    )

pub returns : goal.returns
returns c =
    let done : c.loop-i.i ≡ 16 = omega arith in
    rw (← done) (all_read _ _ _ (omega arith) c.loop-i.invariant.1)
