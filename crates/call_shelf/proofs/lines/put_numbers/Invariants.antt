-- `call_shelf::lines::put_numbers` meets its contract. The loop's invariant: the lines of the numbers passed are written. Assumes nothing.
use Rattle.base_lists.specs.Kit.{take}
use Rattle.base_text.specs.Text.{Put}
use Rattle.call_shelf.specs.Text.{shelf_text}
use Rattle.call_shelf.proofs.lines.put_numbers.Given as goal

abbrev pub invariant-loop-number : goal.invariant-loop-number
invariant-loop-number l = Put l.initial.out 0 (shelf_text (take l.number-index l.numbers)) l.out l.end
