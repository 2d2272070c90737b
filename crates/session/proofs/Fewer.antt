-- Why a cut may strike on from the last table: with fewer links left the old largest set contains the new one. Assumes nothing.
use Rattle.std.specs.Prelude.{◌≤◌}
use Rattle.base_lists.specs.Kit.{List, ℕ, T, length}
use Rattle.base_lists.specs.List.{Occurs}
use Rattle.graph.specs.Chosen.{chosen, ChosenLink}
use Rattle.graph.specs.Circuit.{Circuit, HasLink}
use Rattle.graph.specs.Search.{inside}
use Rattle.graph.proofs.Chosen.{chosen-iff}
use Rattle.graph.proofs.Groups.{select-mem, select-mem-back}
use Rattle.simulation.specs.Simulation.{Direction, forwards, backwards}
use Rattle.table_row.specs.Problem.{with_moves}
use Rattle.table_row.proofs.Begin.{moves-begin}
use Rattle.table.specs.First.{Begins}
use Rattle.table.specs.Host.{everything}
use Rattle.table.specs.Row.{agrees, neighbours, problem_by, problem_of, last_table}

module _ (board : Circuit) (left left' : List ℕ) (fewer : (i : ℕ) → T (inside left' i) → T (inside left i)) where
  fewer-links : (v w : ℕ) → HasLink (chosen board left').starts (chosen board left').ends v w → HasLink (chosen board left).starts (chosen board left).ends v w
  unfolding ChosenLink
  fewer-links v w l = let (i, at, t) = (chosen-iff board left' v w).0 l in (chosen-iff board left v w).1 (i, at, fewer i t)

  fewer-neighbours : (d : Direction) (v w : ℕ) → Occurs (neighbours (chosen board left') d v) w → Occurs (neighbours (chosen board left) d v) w
  unfolding neighbours
  fewer-neighbours forwards v w o = (select-mem _ _ v w).1 (fewer-links v w ((select-mem _ _ v w).0 o))
  fewer-neighbours backwards v w o = (select-mem-back _ _ v w).1 (fewer-links w v ((select-mem-back _ _ v w).0 o))

  -- The last table of the pattern on more links is one to begin with on fewer.
  pub fewer-begins :
      (pattern : Circuit) → length pattern.labels ≤ 32 →
      Begins pattern (chosen board left') (everything (chosen board left')) (last_table pattern (chosen board left) (everything (chosen board left)))
  unfolding problem_by with_moves agrees everything chosen
  fewer-begins pattern most =
      moves-begin (problem_of pattern (chosen board left) (everything (chosen board left))) (neighbours (chosen board left')) most
      (λ d v w o. record { move = fewer-neighbours d v w o.move })
