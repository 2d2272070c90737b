-- `file_bounds::all_within` meets its contract: `all` tells exactly whether each bound is from 1 to 4. Assumes nothing.
use Rattle.base_lists.specs.Kit.{rules}
use Rattle.file_bounds.proofs.Fit.{fit_is}
use Rattle.file_bounds.proofs.all_within.Goals as goal

pub returns : goal.returns
returns c = fit_is _ _ (search rules)
