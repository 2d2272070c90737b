-- The row of a pattern on a circuit is the row of sets that begins with the pairs of equal kinds, and follows links in the ways chosen. Along
-- both ways it contains every dual simulation. Assumes nothing.
use Rattle.std.specs.Prelude.{◌≡◌, ◌↔◌}
use Rattle.base_lists.specs.Kit.{refl, inl, inr, iff_trans, List, ℕ, suc, length}
use Rattle.base_lists.specs.List.{Occurs}
use Rattle.base_lists.proofs.Tests.{both_true, both_left, both_right}
use Rattle.graph.specs.Circuit.{Circuit, HasLink, graph_of, circuit_graph}
use Rattle.graph.specs.Search.{inside}
use Rattle.graph.proofs.Groups.{select-mem, select-mem-back}
use Rattle.simulation.specs.Closed.{Relation, ◌⊆◌, Row}
use Rattle.simulation.specs.Simulation.{Candidate, Direction, forwards, backwards, Along}
use Rattle.simulation.proofs.Simulation.{along-wider}
use Rattle.table_row.specs.Problem.{Way, Agreeing}
use Rattle.table_row.specs.Row.{row_from, row_of}
use Rattle.table_row.specs.Reading.{InTable, SetsFit, Reading, Chosen, Wider}
use Rattle.table_row.proofs.Row as Of
use Rattle.table.specs.Host.{host_graph, KindsMatch}
use Rattle.table.specs.Row.{agrees, neighbours, both_directions, problem_by, problem_of, start_by, row_by, start_table}
use Rattle.table.proofs.Agreement.{agrees-kinds}

-- A table of a pattern on a circuit has a number per node, of as many digits as there are parts.
abbrev pub Table : Circuit → Circuit → List ℕ → Type 0
Table pattern host t = SetsFit (length host.labels) (length pattern.labels) t

-- "R0 is the set of pairs with equal kinds": the pairs of a part and a node of H.
abbrev pub Candidates : Circuit → Circuit → List ℕ → Relation
Candidates pattern host taken = Candidate (circuit_graph pattern) (KindsMatch pattern host) (host_graph host taken)

-- the links of the pattern and those of H, followed in either direction
abbrev pub Steps : Circuit → Direction → Relation
Steps pattern = Along (circuit_graph pattern).Link

abbrev pub Moves : Circuit → List ℕ → Direction → Relation
Moves host taken = Along (host_graph host taken).Link

-- ---- how the problem is read

-- a node's neighbours are those to which a link leads
pub neighbours-along : (c : Circuit) (d : Direction) (v w : ℕ) → Occurs (neighbours c d v) w ↔ Along (HasLink c.starts c.ends) d v w
unfolding neighbours Along
neighbours-along c forwards v w = select-mem c.starts c.ends v w
neighbours-along c backwards v w = select-mem-back c.starts c.ends v w

-- both ways count
pub both_ways : (d : Direction) → Way both_directions d
unfolding Way
both_ways forwards = inl refl
both_ways backwards = inr (inl refl)

-- a link of the circuit between nodes of H is one of H, whichever way it is followed
host-along :
    (host : Circuit) (taken : List ℕ) (d : Direction) (v w : ℕ) → Along (HasLink host.starts host.ends) d v w →
    (host_graph host taken).Node v → (host_graph host taken).Node w → Moves host taken d v w
unfolding host_graph Along
host-along host taken forwards v w l n m = (l, n, m)
host-along host taken backwards v w l n m = (l, m, n)

module _ (ways : List Direction) (pattern host : Circuit) (taken : List ℕ) where
  pub agreeing-for : (u v : ℕ) → Agreeing (problem_by ways pattern host taken) u v ↔ Candidates pattern host taken u v
  unfolding problem_by circuit_graph graph_of host_graph
  agreeing-for u v = (
    λ a.
        record {
          part = a.part;
          node = record { below = a.node; marked = both_left (inside taken v) (agrees pattern host u v) a.agree };
          kinds = (agrees-kinds pattern host u v).0 (both_right (inside taken v) (agrees pattern host u v) a.agree);
        },
    λ c.
        record {
          part = c.part;
          node = c.node.below;
          agree = both_true (inside taken v) (agrees pattern host u v) c.node.marked ((agrees-kinds pattern host u v).1 c.kinds);
        },
  )

  -- The problem asks for equal kinds, and for the links of the pattern to be met by links of H in the ways chosen.
  pub reading-for : Reading (problem_by ways pattern host taken) (Candidates pattern host taken) (Chosen ways (Steps pattern)) (Moves host taken)
  unfolding problem_by circuit_graph graph_of host_graph
  reading-for =
      record {
        agree = agreeing-for;
        step = λ d u u'. (
          λ l. (l.way, (neighbours-along pattern d u u').0 l.step),
          λ (w, l). record { way = w; step = (neighbours-along pattern d u u').1 l },
        );
        move = λ d u v u' v' a b l. (
          λ m. host-along host taken d v v' ((neighbours-along host d v v').0 m.move) a.node b.node,
          λ m. record { move = (neighbours-along host d v v').1 (along-wider (λ x y g. g.0) d v v' m) },
        );
      }

  -- the first table holds the pairs with equal kinds
  pub start-for : (u v : ℕ) → InTable (start_by ways pattern host taken) u v ↔ Candidates pattern host taken u v
  start-for u v = iff_trans (Of.start-in (problem_by ways pattern host taken) u v) (agreeing-for u v)

  -- The tables are the row of sets that begins with the pairs with equal kinds, for the ways chosen.
  pub row-for :
      (k u v : ℕ) →
      InTable (row_by ways pattern host taken k) u v ↔
      Row (Chosen ways (Steps pattern)) (Moves host taken) (Candidates pattern host taken) k u v
  row-for = Of.row_in (problem_by ways pattern host taken) reading-for

  pub row_first : row_by ways pattern host taken 0 ≡ start_by ways pattern host taken
  unfolding row_of row_from
  row_first = refl

  pub row_fits : (k : ℕ) → Table pattern host (row_by ways pattern host taken k)
  unfolding problem_by
  row_fits = Of.row_fits (problem_by ways pattern host taken)

  -- the sets fall
  pub row_inside : (k : ℕ) → InTable (row_by ways pattern host taken (suc k)) ⊆ InTable (row_by ways pattern host taken k)
  row_inside = Of.row_inside (problem_by ways pattern host taken)

-- ---- both ways

module _ (pattern host : Circuit) (taken : List ℕ) where
  pub agreeing-iff : (u v : ℕ) → Agreeing (problem_of pattern host taken) u v ↔ Candidates pattern host taken u v
  agreeing-iff = agreeing-for both_directions pattern host taken

  -- The problem asks for equal kinds, and for the links of the pattern to be met by links of H in both ways.
  pub reading : Reading (problem_of pattern host taken) (Candidates pattern host taken) (Steps pattern) (Moves host taken)
  reading =
      let r = reading-for both_directions pattern host taken in
      record {
        agree = r.agree;
        step = λ d u u'. (λ l. ((r.step d u u').0 l).1, λ l. (r.step d u u').1 (both_ways d, l));
        move = λ d u v u' v' a b l. r.move d u v u' v' a b (both_ways d, l);
      }

  -- along fewer ways the problem asks no more
  pub fewer-ways : (ways : List Direction) → Wider (problem_of pattern host taken) (problem_by ways pattern host taken)
  unfolding problem_by
  fewer-ways ways =
      record {
        agree = λ u v a. record { part = a.part; node = a.node; agree = a.agree };
        step = λ d u u' l. (d, record { way = both_ways d; step = l.step }, λ v v' a b m. record { move = m.move });
      }

  -- ---- the row

  -- the first table holds the pairs with equal kinds
  pub start-in : (u v : ℕ) → InTable (start_table pattern host taken) u v ↔ Candidates pattern host taken u v
  start-in = start-for both_directions pattern host taken
