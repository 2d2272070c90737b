-- `file_links::all_below` meets its contract: the greatest of the numbers tells. Assumes nothing.
use Rattle.base_lists.specs.Kit.{sym, rules}
use Rattle.file_links.proofs.LinkTests.{all-below, all-below_greatest}
use Rattle.file_links.proofs.all_below.Goals as goal

pub returns-in-Some : goal.returns-in-Some
returns-in-Some c = all-below_greatest _ _ _ (search rules) (search rules)

pub returns-in-None : goal.returns-in-None
returns-in-None c = sym (all-below _ _ (λ i h. absurd (search rules)))
