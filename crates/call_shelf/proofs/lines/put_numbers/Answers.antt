-- `call_shelf::lines::put_numbers` meets its contract. The loop's invariant: the lines of the numbers passed are written. Assumes nothing.
use Rattle.base_lists.specs.Kit.{ap, take_all, arith}
use Rattle.base_text.proofs.Text.{put-nothing, put_then, put_same, fits-then}
use Rattle.call_shelf.specs.Text.{shelf_text}
use Rattle.call_shelf.proofs.Text.{text-more, fits_line}
use Rattle.call_shelf.proofs.lines.put_numbers.Goals as goal

pub loop-number-init : goal.loop-number-init
unfolding shelf_text
loop-number-init c = put-nothing

pub put_line-end-requires : goal.put_line-end-requires
put_line-end-requires c =
    fits-then c.loop-number.invariant (fits_line c.args.numbers.now c.loop-number.number-index (omega arith) c.requires)

pub loop-number-preserved : goal.loop-number-preserved
loop-number-preserved c =
    put_same (text-more c.args.numbers.now c.loop-number.number-index (omega arith)) (put_then c.loop-number.invariant c.put_line-end.ensures)

pub returns : goal.returns
returns c =
    put_same (ap shelf_text (take_all c.loop-number.number-index c.args.numbers.now (omega arith))) c.loop-number.invariant
