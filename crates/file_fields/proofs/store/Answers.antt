-- `file_fields::store` meets its contract. The loop's invariant: the fields passed stand at the front. Assumes nothing.
use Rattle.base_lists.specs.Kit.{arith}
use Rattle.file_format.proofs.Fields.{stored-none, stored_more}
use Rattle.file_fields.proofs.store.Goals as goal

pub loop-i-init : goal.loop-i-init
loop-i-init c = stored-none _ _

pub loop-i-preserved : goal.loop-i-preserved
loop-i-preserved c = rw (c.loop-i.invariant, c.field_at.ensures) (stored_more _ _ _ (omega arith))
