-- `file_format::package_count` meets its contract, by cases on the edition. Assumes nothing.
use Rattle.base_lists.specs.Kit.{refl, arith}
use Rattle.file_format.proofs.package_count.Goals as goal

pub returns-in-First : goal.returns-in-First
returns-in-First c = (rw c.in-First.is refl, omega arith)

pub returns-in-Second : goal.returns-in-Second
returns-in-Second c = (rw c.in-Second.is refl, omega arith)
