-- The row of sets of a pattern with bounds on a whole board, and its answer: what the contracts cite. It is that of a problem as table_row has
-- it. A label is a direction and a bound; a board's moves are the ends of directed paths of 1 to h links.
use Rattle.std.specs.Prelude.{◌≡◌, ◌∷◌, ◌++◌, ◌≤◌, ◌<◌}
use Rattle.base_lists.specs.Kit.{List, [], ℕ, suc, zero, eqb, length, get_or}
use Rattle.base_lists.specs.Below.{keep_from}
use Rattle.graph.specs.Circuit.{Circuit, LinkAt}
use Rattle.simulation.specs.Simulation.{Direction, forwards, backwards}
use Rattle.table_row.specs.Problem.{Problem}
use Rattle.table_row.specs.Row.{started_of, rounds_of}
use Rattle.table_row.specs.Answer.{answer_of, answer_kept, answer_struck}
use Rattle.table.specs.Row.{agrees, neighbours}
use Rattle.table.specs.declared.Counts.{Counts}
use Rattle.bounded.specs.Simulation.{BoundedGraph}

-- ---- the pattern

-- "a bound for each link, 1 to 4": every bound of a list is from 1 to 4
pub record InBounds (bounds : List ℕ) : Type 0 where
  pub some : (i : ℕ) → i < length bounds → 1 ≤ get_or bounds i 0
  pub most : (i : ℕ) → i < length bounds → get_or bounds i 0 ≤ 4

-- and a pattern has one for each link
pub record Bounds (pattern : Circuit) (bounds : List ℕ) : Type 0 where
  pub each : length bounds ≡ length pattern.starts
  pub inside : InBounds bounds

-- the pattern's i-th link has the i-th bound
unfoldable pub bounded_graph : Circuit → List ℕ → BoundedGraph
bounded_graph pattern bounds =
    record {
      Node = λ u. u < length pattern.labels;
      Link = λ u u' h. (i : ℕ) × LinkAt pattern.starts pattern.ends u u' i × (get_or bounds i 0 ≡ h);
    }

-- the pattern with those of its links alone that have the bound h
unfoldable pub of_bound : List ℕ → ℕ → Circuit → Circuit
of_bound bounds h c =
    record {
      labels = c.labels;
      starts = keep_from zero (λ i. eqb (get_or bounds i 0) h) c.starts;
      ends = keep_from zero (λ i. eqb (get_or bounds i 0) h) c.ends;
    }

-- ---- the board

-- the lists f w over the entries w of a list, one after another
unfoldable pub gather : (ℕ → List ℕ) → List ℕ → List ℕ
gather f [] = []
gather f (w ∷ ws) = f w ++ gather f ws

-- the ends of the paths of 1 to h links from v, where `near` has the ends of a node's links: each of these ends, and the ends of paths of 1
-- to h - 1 links from there
unfoldable pub within : (ℕ → List ℕ) → ℕ → ℕ → List ℕ
within near zero v = []
within near (suc h) v = gather (λ w. w ∷ within near h w) (near v)

-- ---- the problem

-- a direction, and a bound
pub record Label : Type 0 where
  pub way : Direction
  pub bound : ℕ

abbrev pub labelled : Direction → ℕ → Label
labelled d h = record { way = d; bound = h }

-- both directions with every bound
unfoldable pub every_label : List Label
every_label =
    labelled forwards 1 ∷ labelled forwards 2 ∷ labelled forwards 3 ∷ labelled forwards 4 ∷ labelled backwards 1 ∷ labelled backwards 2 ∷
    labelled backwards 3 ∷ labelled backwards 4 ∷ []

-- to match a pattern with these bounds on a board
unfoldable pub bounded_problem : Circuit → List ℕ → Circuit → Problem Label
bounded_problem pattern bounds board =
    record {
      parts = length pattern.labels;
      nodes = length board.labels;
      agree = agrees pattern board;
      ways = every_label;
      steps = λ l. neighbours (of_bound bounds l.bound pattern) l.way;
      moves = λ l. within (neighbours board l.way) l.bound;
    }

-- ---- the answer

-- the table: the last set of the row, or all 0
abbrev pub bounded_table : Circuit → List ℕ → Circuit → List ℕ
bounded_table pattern bounds board = answer_of (bounded_problem pattern bounds board)

-- "with its counts, all-0 rule ..": kept are the pairs of that table
unfoldable pub bounded_counts : Circuit → List ℕ → Circuit → Counts
bounded_counts pattern bounds board =
    let p = bounded_problem pattern bounds board in
    record { started = started_of p; kept = answer_kept p; struck = answer_struck p; rounds = rounds_of p }

pub record BoundedAnswer (pattern : Circuit) (bounds : List ℕ) (board : Circuit) (table : List ℕ) (counts : Counts) : Type 0 where
  pub counted : counts ≡ bounded_counts pattern bounds board
  pub last : table ≡ bounded_table pattern bounds board
