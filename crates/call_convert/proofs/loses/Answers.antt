-- `call_convert::loses` meets its contract, by cases on the edition. Assumes nothing.
use Rattle.base_lists.specs.Kit.{refl, rules}
use Rattle.file_format.specs.Refusals.{lost_package}
use Rattle.call_convert.proofs.Packages.{lost_is}
use Rattle.call_convert.proofs.loses.Goals as goal

pub returns-in-First : goal.returns-in-First
returns-in-First c = rw c.in-First.is (lost_is _ _ (search rules))

pub returns-in-Second : goal.returns-in-Second
unfolding lost_package
returns-in-Second c = rw c.in-Second.is refl
