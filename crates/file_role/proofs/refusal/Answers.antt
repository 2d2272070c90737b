-- `file_role::refusal` meets its contract. Assumes nothing.

use Rattle.file_role.proofs.refusal.Goals as goal

pub returns : goal.returns
returns c = rw c.file_of-file.ensures
