-- `heronditch_told::editions_of` meets its contract: each file's edition by its own number. Assumes nothing.

use Rattle.heronditch_told.proofs.editions_of.Goals as goal

pub returns : goal.returns
returns c = (c.edition_of.ensures, c.edition_of-2.ensures)
