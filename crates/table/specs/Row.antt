-- The row of sets of a pattern on a circuit, and the four counts: what the contracts cite. They are those of a problem as table_row has it:
-- which part agrees with which node, and links to be followed in the directions chosen. proofs/ shows that the last set is the largest closed
-- one, and so what dual simulation and graph simulation have as their largest.
use Rattle.std.specs.Prelude.{◌&&◌, ◌||◌, ◌∷◌}
use Rattle.base_lists.specs.Kit.{Bool, false, true, List, [], ℕ, eqb, length, get_or}
use Rattle.file_format.specs.Label.{kind_in, package_in}
use Rattle.graph.specs.Circuit.{Circuit}
use Rattle.graph.specs.Neighbours.{select}
use Rattle.graph.specs.Search.{inside}
use Rattle.simulation.specs.Simulation.{Direction, forwards, backwards}
use Rattle.table.specs.declared.Ways.{Ways}
use Rattle.table.specs.declared.Ways.TheVariants.{Both, Forward}
use Rattle.table_row.specs.Problem.{Problem}
use Rattle.table_row.specs.Row.{start_of, row_of, started_of, last_of, kept_of, struck_of, rounds_of}
unfoldable pub use Rattle.table_row.specs.Row.{in_table, pairs}
pub use Rattle.table_row.specs.Reading.{InTable, Chosen, LargestOccurring}
unfoldable pub use Rattle.table_row.specs.Problem.{Way}

-- ---- the problem

-- "Two nodes are now equal when kinds agree by Ask 1 and packages are the same number, kind 0 included": a part and a node with these labels
-- agree when the packages are the same, and the part is of kind 0, or the kinds are equal
unfoldable pub kinds_agree : ℕ → ℕ → Bool
kinds_agree part node = eqb (package_in part) (package_in node) && (eqb (kind_in part) 0 || eqb (kind_in part) (kind_in node))

-- part u and node v agree
unfoldable pub agrees : Circuit → Circuit → ℕ → ℕ → Bool
agrees pattern host u v = kinds_agree (get_or pattern.labels u 0) (get_or host.labels v 0)

-- what a node drives, and what drives it
unfoldable pub neighbours : Circuit → Direction → ℕ → List ℕ
neighbours c forwards v = select c.starts c.ends v
neighbours c backwards v = select c.ends c.starts v

-- to match a pattern on those nodes of a circuit that are taken, along the directions chosen
unfoldable pub problem_by : List Direction → Circuit → Circuit → List ℕ → Problem Direction
problem_by ways pattern host taken =
    record {
      parts = length pattern.labels;
      nodes = length host.labels;
      agree = λ u v. inside taken v && agrees pattern host u v;
      ways = ways;
      steps = neighbours pattern;
      moves = neighbours host;
    }

-- The two choices that calls make: partners along links of both directions, or, for a "variant whose pairs need partners along forward links
-- only", along what a part drives alone.
abbrev pub both_directions : List Direction
both_directions = forwards ∷ backwards ∷ []

abbrev pub one_way : List Direction
one_way = forwards ∷ []

-- a call is told which by a name
abbrev pub ways_of : Ways → List Direction
ways_of Both = both_directions
ways_of Forward = one_way

-- a direction is among those chosen
unfoldable pub among : List Direction → Direction → Bool
among [] d = false
among (forwards ∷ ways) forwards = true
among (forwards ∷ ways) backwards = among ways backwards
among (backwards ∷ ways) forwards = among ways forwards
among (backwards ∷ ways) backwards = true

-- both directions, which is what is meant where nothing is said of them
abbrev pub problem_of : Circuit → Circuit → List ℕ → Problem Direction
problem_of pattern host taken = problem_by both_directions pattern host taken

-- the same by equal labels alone, as it was when kind 0 was a kind like any other
unfoldable pub by_equal_kinds : Circuit → Circuit → List ℕ → Problem Direction
by_equal_kinds pattern host taken =
    record {
      parts = length pattern.labels;
      nodes = length host.labels;
      agree = λ u v. inside taken v && eqb (get_or pattern.labels u 0) (get_or host.labels v 0);
      ways = forwards ∷ backwards ∷ [];
      steps = neighbours pattern;
      moves = neighbours host;
    }

-- the same by the kinds of circuits without packages, as it was before there were any
unfoldable pub by_kinds : Circuit → Circuit → List ℕ → Problem Direction
by_kinds pattern host taken =
    record {
      parts = length pattern.labels;
      nodes = length host.labels;
      agree = λ u v. inside taken v && (eqb (get_or pattern.labels u 0) 0 || eqb (get_or pattern.labels u 0) (get_or host.labels v 0));
      ways = forwards ∷ backwards ∷ [];
      steps = neighbours pattern;
      moves = neighbours host;
    }

-- ---- its row

-- "R0 is the set of pairs with equal kinds."
abbrev pub start_by : List Direction → Circuit → Circuit → List ℕ → List ℕ
start_by ways pattern host taken = start_of (problem_by ways pattern host taken)

-- "Each further set keeps those pairs of the last whose links have partners in the last."
abbrev pub row_by : List Direction → Circuit → Circuit → List ℕ → ℕ → List ℕ
row_by ways pattern host taken = row_of (problem_by ways pattern host taken)

-- "The last set of this row is the largest dual simulation."
abbrev pub last_by : List Direction → Circuit → Circuit → List ℕ → List ℕ
last_by ways pattern host taken = last_of (problem_by ways pattern host taken)

-- ---- its counts

-- "started, the pairs of R0; kept, the pairs left; struck, started minus kept; rounds, how many sets differ from the one before"
abbrev pub started_by : List Direction → Circuit → Circuit → List ℕ → ℕ
started_by ways pattern host taken = started_of (problem_by ways pattern host taken)

abbrev pub kept_by : List Direction → Circuit → Circuit → List ℕ → ℕ
kept_by ways pattern host taken = kept_of (problem_by ways pattern host taken)

abbrev pub struck_by : List Direction → Circuit → Circuit → List ℕ → ℕ
struck_by ways pattern host taken = struck_of (problem_by ways pattern host taken)

abbrev pub rounds_by : List Direction → Circuit → Circuit → List ℕ → ℕ
rounds_by ways pattern host taken = rounds_of (problem_by ways pattern host taken)

-- ---- along both ways, which is meant where nothing is said of directions

abbrev pub start_table : Circuit → Circuit → List ℕ → List ℕ
start_table pattern host taken = start_by both_directions pattern host taken

abbrev pub row : Circuit → Circuit → List ℕ → ℕ → List ℕ
row pattern host taken = row_by both_directions pattern host taken

abbrev pub last_table : Circuit → Circuit → List ℕ → List ℕ
last_table pattern host taken = last_by both_directions pattern host taken

abbrev pub started : Circuit → Circuit → List ℕ → ℕ
started pattern host taken = started_by both_directions pattern host taken

abbrev pub kept : Circuit → Circuit → List ℕ → ℕ
kept pattern host taken = kept_by both_directions pattern host taken

abbrev pub struck : Circuit → Circuit → List ℕ → ℕ
struck pattern host taken = struck_by both_directions pattern host taken

abbrev pub rounds : Circuit → Circuit → List ℕ → ℕ
rounds pattern host taken = rounds_by both_directions pattern host taken
