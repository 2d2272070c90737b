-- `report_texts::put_head` meets its contract, piece by piece. Assumes nothing.
use Rattle.base_text.specs.Text.{bytes}
use Rattle.base_text.proofs.Text.{put_then, fits-first, fits-then}
use Rattle.report_texts.specs.Texts.{head_text}
use Rattle.report_texts.proofs.put_head.Goals as goal

pub put_numbered-colon-requires : goal.put_numbered-colon-requires
unfolding head_text bytes
put_numbered-colon-requires c = fits-first _ (bytes ":") c.requires

pub put_byte-requires : goal.put_byte-requires
unfolding head_text bytes
put_byte-requires c =
    fits-then c.put_numbered-colon.ensures c.requires

pub returns : goal.returns
unfolding head_text bytes
returns c =
    put_then c.put_numbered-colon.ensures c.put_byte.ensures
