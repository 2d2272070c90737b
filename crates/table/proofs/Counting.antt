-- The row of a pattern on a circuit comes to rest at its last set, and the four counts say how: table_row's laws, for any directions and at most 32
-- parts.
-- Assumes nothing.
use Rattle.std.specs.Prelude.{◌≡◌, ◌≢◌, ◌≤◌, ◌<◌, ◌-◌}
use Rattle.base_lists.specs.Kit.{refl, List, map, ℕ, suc, length}
use lib.Count.{ones}
use Rattle.base_lists.specs.List.{sum}
use Rattle.graph.specs.Circuit.{Circuit}
use Rattle.table_row.specs.Row.{struck_of}
use Rattle.table_row.proofs.Counting as Of
use Rattle.simulation.specs.Simulation.{Direction}
use Rattle.table.specs.Row.{problem_by, start_by, row_by, last_by, started_by, kept_by, struck_by, rounds_by}

-- "struck, started minus kept"
pub struck-minus : (ways : List Direction) (pattern host : Circuit) (taken : List ℕ) → struck_by ways pattern host taken ≡ started_by ways pattern host taken - kept_by ways pattern host taken
unfolding struck_of
struck-minus ways pattern host taken = refl

module _ (ways : List Direction) (pattern host : Circuit) (taken : List ℕ) (most : length pattern.labels ≤ 32) where
  -- "rounds, how many sets differ from the one before": each set up to there does, and there the row has come to its last
  pub rounds-differ : (j : ℕ) → j < rounds_by ways pattern host taken → row_by ways pattern host taken (suc j) ≢ row_by ways pattern host taken j
  unfolding problem_by
  rounds-differ = Of.rounds-differ (problem_by ways pattern host taken) most

  pub rounds-last : (k : ℕ) → rounds_by ways pattern host taken ≤ k → row_by ways pattern host taken k ≡ last_by ways pattern host taken
  unfolding problem_by
  rounds-last = Of.rounds-last (problem_by ways pattern host taken) most

  -- "kept is the number of one bits in the whole table"; started likewise, of the first
  pub kept-ones : kept_by ways pattern host taken ≡ sum (map ones (last_by ways pattern host taken))
  unfolding problem_by
  kept-ones = Of.kept_of-ones (problem_by ways pattern host taken) most

  pub started-ones : started_by ways pattern host taken ≡ sum (map ones (start_by ways pattern host taken))
  unfolding problem_by
  started-ones = Of.started-ones (problem_by ways pattern host taken) most
