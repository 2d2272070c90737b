-- `file_write::check` meets its contract. Assumes nothing.
use Rattle.base_lists.specs.Kit.{◌∙◌, sym}
use Rattle.file_write.proofs.Writing.{circuit-verdict}
use Rattle.file_write.proofs.check.Goals as goal

pub returns : goal.returns
returns c = c.check_circuit.ensures ∙ sym (circuit-verdict _ _ _ _ _ _)
