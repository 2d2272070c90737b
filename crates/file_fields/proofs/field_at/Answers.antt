-- `file_fields::field_at` meets its contract: a byte is below 256, so that two of them fit 16 bits. Assumes nothing.
use Rattle.base_lists.specs.Kit.{refl}
use Rattle.file_format.specs.Layout.{field}
use Rattle.file_fields.proofs.field_at.Goals as goal

pub returns : goal.returns
unfolding field
returns c = refl
