-- `heronditch_reply::refused_with` meets its contract. Assumes nothing.

use Rattle.heronditch_reply.proofs.refused_with.Goals as goal

pub returns : goal.returns
returns c = rw (c.with_counts.ensures, c.file_number.ensures)
