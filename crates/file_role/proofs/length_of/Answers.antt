-- `file_role::length_of` meets its contract. Assumes nothing.

use Rattle.file_role.proofs.length_of.Goals as goal

pub returns : goal.returns
returns c = rw c.package_count.ensures.0
