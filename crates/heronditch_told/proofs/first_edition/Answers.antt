-- `heronditch_told::first_edition` meets its contract: 1 is below 2. Assumes nothing.
use mathlib.Core.Path.{refl}
use Rattle.heronditch_told.specs.Told.{edition_of}
use Rattle.heronditch_told.proofs.first_edition.Goals as goal

pub returns : goal.returns
unfolding edition_of
returns c = refl
