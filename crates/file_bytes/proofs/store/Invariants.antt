-- `file_bytes::store` meets its contract. The loop's invariant: the numbers passed are stored. Assumes nothing.
use Rattle.std.specs.Prelude.{◌≡◌}
use Rattle.base_lists.specs.Kit.{take}
use Rattle.file_bytes.specs.Bytes.{stored}
use Rattle.file_bytes.proofs.store.Given as goal

abbrev pub invariant-loop-i : goal.invariant-loop-i
invariant-loop-i l = l.out ≡ stored l.initial.out l.at (take l.i l.numbers)
