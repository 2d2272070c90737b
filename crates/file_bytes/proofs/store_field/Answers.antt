-- `file_bytes::store_field` meets its contract: two stores make the field. Assumes nothing.
use Rattle.base_lists.specs.Kit.{arith}
use Rattle.file_bytes.proofs.Stores.{stored-field}
use Rattle.file_bytes.proofs.store_field.Goals as goal

pub returns : goal.returns
returns c = stored-field _ _ _ (omega arith)
