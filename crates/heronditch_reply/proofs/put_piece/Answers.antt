-- `heronditch_reply::put_piece` meets its contract. Assumes nothing.
use mathlib.Core.Path.{refl}
use Rattle.heronditch_reply.proofs.put_piece.Goals as goal

pub returns : goal.returns
returns c = refl
