-- `file_fields::store_at` meets its contract. Assumes nothing.
use Rattle.std.specs.Prelude.{◌++◌}
use Rattle.base_lists.specs.Kit.{◌∙◌, ap, List, ℕ, drop}
use Rattle.file_fields.proofs.store_at.Goals as goal

pub returns : goal.returns
returns c =
    c.store.ensures ∙ ap (λ (l : List ℕ). l ++ drop c.args.k c.args.out.now) c.stretch.ensures.1
