-- `table_first::write_sets` meets its contract. The loop's invariant: the turns that are left lead to the whole table and the whole count.
-- Assumes nothing.
use Rattle.std.specs.Prelude.{◌≡◌, ◌≤◌, ◌*◌, ℕ}
use Rattle.table_first.proofs.Filling.{Filling}
use Rattle.table_first.proofs.write_sets.Given as goal

abbrev pub invariant-loop-node : goal.invariant-loop-node
invariant-loop-node g l =
    (l.started ≤ 32 * l.node-index)
    × ((rule : ℕ → ℕ) → ((v set : ℕ) → goal.F-post g l.set_of v set → set ≡ rule v) → Filling rule l.nodes l.initial.table l.table l.started l.node-index)
