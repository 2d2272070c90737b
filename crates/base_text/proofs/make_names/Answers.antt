-- `base_text::make_names` meets its contract: past the last entry all are names. Assumes nothing.
use Rattle.base_lists.specs.Kit.{arith}
use Rattle.base_lists.proofs.Tables.{filled_none, filled_more}
use Rattle.base_text.specs.Text.{digits_number}
use Rattle.base_text.proofs.make_names.Goals as goal

pub loop-x-init : goal.loop-x-init
loop-x-init c = filled_none digits_number c.args.names.now

pub loop-x-preserved : goal.loop-x-preserved
loop-x-preserved c = rw (c.loop-x.invariant, c.name_of.ensures) (filled_more c.loop-x.x digits_number c.args.names.now (omega arith))
