-- `file_bytes::put_fields` meets its contract: the stretches stored one behind another make the file. Assumes nothing.
use Rattle.file_bytes.proofs.Stores.{file-stored}
use Rattle.file_bytes.proofs.put_fields.Goals as goal

pub returns : goal.returns
returns c =
    rw (c.store_two-2.ensures, c.store_two.ensures, c.store_field-2.ensures, c.store_field.ensures)
    (file-stored _ _ _ _ _ c.requires.kinds_len_bound.2 c.requires.starts_in_bounds)
