-- `file_fields::stretch` meets its contract: the part has the fields that begin at the offset. Assumes nothing.
use Rattle.base_lists.specs.Kit.{length-drop, length-take, arith}
use Rattle.file_format.proofs.Fields.{fields-part}
use Rattle.file_fields.proofs.stretch.Goals as goal

pub returns : goal.returns
returns c =
    (simp (length-take, length-drop) (omega arith), fields-part _ _ _)
