-- `bounded_prepare::keys_of` meets its contract. The loop's invariant: the first i numbers are made, and the others as they were. Assumes nothing.
use Rattle.std.specs.Prelude.{◌≡◌, ◌++◌}
use Rattle.base_lists.specs.Kit.{List, ℕ, get_or, drop}
use Rattle.base_lists.specs.List.{tabulate}
use Rattle.bounded_strike.specs.Prepared.{key_at}
use Rattle.bounded_prepare.proofs.keys_of.Given as goal

-- the number of link i
unfoldable pub key : List ℕ → List ℕ → ℕ → ℕ
key bounds parts i = key_at (get_or bounds i 0) (get_or parts i 0)

abbrev pub invariant-loop-i : goal.invariant-loop-i
invariant-loop-i l = l.keys ≡ tabulate l.i (key l.bounds l.parts) ++ drop l.i l.initial.keys
