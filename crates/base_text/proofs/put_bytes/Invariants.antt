-- `base_text::put_bytes` meets its contract. The loop's invariant: the bytes passed are written. Assumes nothing.
use Rattle.base_lists.specs.Kit.{take}
use Rattle.base_text.specs.Text.{Put}
use Rattle.base_text.proofs.put_bytes.Given as goal

abbrev pub invariant-loop-b : goal.invariant-loop-b
invariant-loop-b l = Put l.initial.out l.at (take l.b-index l.word) l.out l.end
