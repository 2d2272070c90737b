-- `file_bytes::store` meets its contract. The loop's invariant: the numbers passed are stored. Assumes nothing.
use Rattle.base_lists.specs.Kit.{arith}
use Rattle.file_bytes.proofs.Stores.{stored-none, stored_more}
use Rattle.file_bytes.proofs.store.Goals as goal

pub loop-i-init : goal.loop-i-init
loop-i-init c = stored-none _ _

pub loop-i-preserved : goal.loop-i-preserved
loop-i-preserved c =
    rw (c.store_field.ensures, c.loop-i.invariant) (stored_more c.args.out.now c.args.at c.args.numbers.now c.loop-i.i (omega arith) (omega arith))
