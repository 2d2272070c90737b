-- `session_open::store_values` meets its contract. Assumes nothing.
use Rattle.std.specs.Prelude.{◌++◌}
use Rattle.base_lists.specs.Kit.{◌∙◌, ap, List, ℕ, length, drop}
use Rattle.session_open.specs.Open.{padded}
use Rattle.session_open.proofs.store_values.Goals as goal

pub returns : goal.returns
unfolding padded
returns c =
    c.copy.ensures ∙ ap (λ (l : List ℕ). c.args.values.now ++ drop (length c.args.values.now) l) c.fill.ensures
