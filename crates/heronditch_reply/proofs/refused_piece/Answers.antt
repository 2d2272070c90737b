-- `heronditch_reply::refused_piece` meets its contract. Assumes nothing.

use Rattle.heronditch_reply.proofs.refused_piece.Goals as goal

pub returns : goal.returns
returns c = rw c.file_number.ensures
