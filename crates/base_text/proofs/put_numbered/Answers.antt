-- `base_text::put_numbered` meets its contract. Assumes nothing.
use Rattle.base_text.proofs.Text.{put_then, fits-first, fits-then}
use Rattle.base_text.proofs.put_numbered.Goals as goal

pub put_bytes-next-requires : goal.put_bytes-next-requires
put_bytes-next-requires c = fits-first _ _ c.requires

pub put_number-requires : goal.put_number-requires
put_number-requires c =
    fits-then c.put_bytes-next.ensures c.requires

pub returns : goal.returns
returns c =
    put_then c.put_bytes-next.ensures c.put_number.ensures
