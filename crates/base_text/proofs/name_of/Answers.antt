-- `base_text::name_of` meets its contract. Assumes nothing.
use Rattle.base_lists.specs.Kit.{refl}
use Rattle.base_text.specs.Text.{digits_number}
use Rattle.base_text.proofs.name_of.Goals as goal

pub returns : goal.returns
unfolding digits_number
returns c = refl
