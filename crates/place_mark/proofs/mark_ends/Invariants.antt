-- `place_mark::mark_ends` meets its contract. The loop's invariant: the bytes before k are marked, and the others as they were.
-- Assumes nothing.
use Rattle.std.specs.Prelude.{◌≡◌, ◌++◌}
use Rattle.base_lists.specs.Kit.{cond, List, ℕ, get_or, drop}
use Rattle.base_lists.specs.List.{tabulate}
use Rattle.base_bits.specs.Bits.{intersects}
use Rattle.place_mark.proofs.mark_ends.Given as goal

-- the byte of the k-th link
abbrev pub byte : List ℕ → ℕ → List ℕ → List ℕ → ℕ → ℕ
byte ends driven sets bytes k = cond (intersects driven (get_or sets (get_or ends k 0) 0)) 1 (get_or bytes k 0)

abbrev pub invariant-loop-k : goal.invariant-loop-k
invariant-loop-k l =
    l.bytes ≡ tabulate l.k (byte l.ends l.driven l.sets l.initial.bytes) ++ drop l.k l.initial.bytes
