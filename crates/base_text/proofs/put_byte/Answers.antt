-- `base_text::put_byte` meets its contract. Assumes nothing.
use Rattle.base_text.proofs.Text.{put_one}
use Rattle.base_text.proofs.put_byte.Goals as goal

pub returns : goal.returns
returns c = put_one _ _ _
