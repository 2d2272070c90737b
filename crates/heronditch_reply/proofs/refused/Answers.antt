-- `heronditch_reply::refused` meets its contract. Assumes nothing.

use Rattle.heronditch_reply.proofs.refused.Goals as goal

pub returns : goal.returns
returns c = rw c.file_number.ensures
