-- `heronditch::files::heronditch_neighbours` meets its contract: the stretch that the lookup hands out, copied. Assumes
-- nothing.

use Rattle.heronditch.proofs.files.heronditch_neighbours.Goals as goal

pub returns : goal.returns
returns c =
    rw (← c.direction_of.ensures, ← c.neighbours-part.ensures)
    c.copy_out.ensures
