-- `file_write::write_parts` meets its contract: the labels are taken apart, and what they have is written. Assumes nothing.
use Rattle.file_write.proofs.RoundTrip.{kinds-for}
use Rattle.file_write.proofs.write_parts.Goals as goal

pub returns : goal.returns
returns c =
    rw (← (kinds-for _ _ c.requires.2), ← c.split.ensures.0, ← c.split.ensures.1) c.write.ensures
