-- `session_strike::unmark` meets its contract. Assumes nothing.
use Rattle.std.specs.Prelude.{◌+◌, ◌*◌}
use Rattle.base_lists.specs.Kit.{ap, ℕ, set}
use Rattle.session_strike.specs.Moves.{node_at, unmark}
use Rattle.session_strike.proofs.unmark.Goals as goal

pub returns : goal.returns
unfolding node_at unmark
returns c =
    (ap (set c.args.marks.now c.args.j) c.without_first.ensures, ap (λ (u : ℕ). 32 * c.args.j + u) c.first.ensures)
