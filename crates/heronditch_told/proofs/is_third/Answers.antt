-- `heronditch_told::is_third` meets its contract: as it is computed. Assumes nothing.
use mathlib.Core.Path.{refl}
use Rattle.heronditch_told.specs.Told.{is_third}
use Rattle.heronditch_told.proofs.is_third.Goals as goal

pub returns : goal.returns
unfolding is_third
returns c = refl
