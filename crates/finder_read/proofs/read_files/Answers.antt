use Rattle.base_lists.specs.Kit.{refl, rules}
use Rattle.base_text.specs.Text.{bytes}
use Rattle.finder_read.proofs.read_files.Goals as goal

pub load-first-requires : goal.load-first-requires
unfolding bytes
load-first-requires c = (refl, search rules)

pub load-second-requires : goal.load-second-requires
unfolding bytes
load-second-requires c = (refl, search rules)
