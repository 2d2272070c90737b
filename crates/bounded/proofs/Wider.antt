-- Patterns that differ in their bounds alone: larger bounds ask no more; and where every bound is 1, what is asked is what the pattern without
-- bounds asks. Assumes nothing.
use Rattle.std.specs.Prelude.{◌≡◌, ◌≤◌, ◌-◌}
use Rattle.base_lists.specs.Kit.{sym, ap, refl, subst, ap₂, inl, inr, List, ℕ, le_refl, length, get_or, arith}
use Rattle.base_lists.specs.List.{Occurs}
use Rattle.base_lists.proofs.Tests.{both_true, both_right}
use Rattle.graph.specs.Circuit.{Circuit, HasLink, graph_of, circuit_graph}
use Rattle.graph.specs.Search.{inside}
use Rattle.simulation.specs.Closed.{◌⊆◌}
use Rattle.simulation.specs.Simulation.{Direction, forwards, backwards, Along}
use Rattle.simulation.proofs.Simulation.{along-wider}
use Rattle.table_row.specs.Problem.{Problem, Way}
use Rattle.table_row.specs.Reading.{InTable, Wider, Equivalent}
use Rattle.table_row.proofs.Wider.{started-same, rounds-same}
use Rattle.table_row.specs.Row.{pairs}
use Rattle.table_row.specs.Answer.{answer_kept, answer_struck}
use Rattle.table_row.proofs.Answer.{answer-wider, answer-same}
use Rattle.table.specs.Answer.{answer_table, answer_counts, answer_counts_by}
use Rattle.table.specs.Host.{everything}
use Rattle.table.specs.Row.{agrees, neighbours, problem_by, problem_of}
use Rattle.table.proofs.Host.{everything-taken}
use Rattle.table.proofs.Row.{neighbours-along}
use Rattle.bounded.specs.Raised.{Raised, AllOne}
use Rattle.bounded.specs.Problem.{Bounds, bounded_graph, labelled, bounded_problem, bounded_table, bounded_counts}
use Rattle.bounded.proofs.Paths.{within_wider, one-path, path-one}
use Rattle.bounded.specs.Run.{Steps, Moves}
use Rattle.bounded.proofs.Meaning.{steps-iff, moves-iff, step-way}

-- ---- larger bounds

module _ (pattern : Circuit) {bounds bounds' : List ℕ} (board : Circuit) (each : Bounds pattern bounds) (r : Raised bounds bounds') where
  -- a link of the larger bound is one of the smaller bound,
  smaller : (d : Direction) (h u u' : ℕ) → Steps pattern bounds' (labelled d h) u u' → (k : ℕ) × (k ≤ h) × Steps pattern bounds (labelled d k) u u'
  unfolding bounded_graph Along
  smaller forwards h u u' (i, k, e) = (get_or bounds i 0, omega (arith, r.at_least i (omega (arith, each.each, k.in_starts)), e), (i, k, refl))
  smaller backwards h u u' (i, k, e) = (get_or bounds i 0, omega (arith, r.at_least i (omega (arith, each.each, k.in_starts)), e), (i, k, refl))

  -- and a path within the smaller bound is within the larger.
  larger : (d : Direction) (k h v v' : ℕ) → k ≤ h → Moves board (labelled d k) v v' → Moves board (labelled d h) v v'
  larger d k h v v' m p = along-wider (λ x y. within_wider (λ a b l. l) m) d v v' p

  pub raised-wider : Wider (bounded_problem pattern bounds board) (bounded_problem pattern bounds' board)
  unfolding bounded_problem
  raised-wider =
      record {
        agree = λ u v a. record { part = a.part; node = a.node; agree = a.agree };
        step =
            λ l u u' s.
            let (k, m, s') = smaller l.way l.bound u u' ((steps-iff pattern bounds' l.way l.bound u u').0 s.step) in (
              labelled l.way k,
              record {
                way = step-way pattern bounds board each l.way k u u' s';
                step = (steps-iff pattern bounds l.way k u u').1 s';
              },
              λ v v' a b p.
                  record { move = (moves-iff board l.way l.bound v v').1 (larger l.way k l.bound v v' m ((moves-iff board l.way k v v').0 p.move)) },
            );
      }

  -- "raising a bound never takes a pair away": bit by bit, and with the all-0 rule
  pub raised-more : length pattern.labels ≤ 32 → InTable (bounded_table pattern bounds board) ⊆ InTable (bounded_table pattern bounds' board)
  unfolding bounded_problem
  raised-more most = answer-wider raised-wider most (le_refl _)

-- ---- problems that ask the same

module _ {D E : Type 0} {p : Problem D} {q : Problem E} (s : Equivalent p q) where
  kept_same : answer_kept p ≡ answer_kept q
  unfolding answer_kept
  kept_same = ap pairs (answer-same s)

  struck-same : answer_struck p ≡ answer_struck q
  unfolding answer_struck
  struck-same = ap₂ (λ (a b : ℕ). a - b) (started-same s) kept_same

-- ---- every bound 1

module _ (pattern : Circuit) (bounds : List ℕ) (board : Circuit) (each : Bounds pattern bounds) (one : AllOne bounds) where
  -- links of any bound, and links
  plain : (d : Direction) (h u u' : ℕ) → Steps pattern bounds (labelled d h) u u' → (h ≡ 1) × Along (HasLink pattern.starts pattern.ends) d u u'
  unfolding bounded_graph Along HasLink
  plain forwards h u u' (i, k, e) = (omega (arith, one i (omega (arith, each.each, k.in_starts)), e), (i, k))
  plain backwards h u u' (i, k, e) = (omega (arith, one i (omega (arith, each.each, k.in_starts)), e), (i, k))

  marked : (d : Direction) (u u' : ℕ) → Along (HasLink pattern.starts pattern.ends) d u u' → Steps pattern bounds (labelled d 1) u u'
  unfolding bounded_graph Along HasLink
  marked forwards u u' (i, k) = (i, k, one i (omega (arith, each.each, k.in_starts)))
  marked backwards u u' (i, k) = (i, k, one i (omega (arith, each.each, k.in_starts)))

  -- paths of one link, and links
  single : (d : Direction) (v v' : ℕ) → Occurs (neighbours board d v) v' → Moves board (labelled d 1) v v'
  unfolding circuit_graph graph_of
  single d v v' o = along-wider (λ x y l. one-path l) d v v' ((neighbours-along board d v v').0 o)

  direct : (d : Direction) (v v' : ℕ) → Moves board (labelled d 1) v v' → Occurs (neighbours board d v) v'
  unfolding circuit_graph graph_of
  direct d v v' m = (neighbours-along board d v v').1 (along-wider (λ x y p. path-one p) d v v' m)

  two_ways : (d : Direction) → Way (problem_of pattern board (everything board)).ways d
  unfolding problem_by Way
  two_ways forwards = inl refl
  two_ways backwards = inr (inl refl)

  pub ones-same : Equivalent (bounded_problem pattern bounds board) (problem_of pattern board (everything board))
  unfolding bounded_problem problem_by
  ones-same =
      record {
        nodes = refl;
        parts = refl;
        wider =
            record {
              agree =
                  λ u v a.
                  record {
                    part = a.part;
                    node = a.node;
                    agree = both_true (inside (everything board) v) (agrees pattern board u v) (everything-taken board v a.node).marked a.agree;
                  };
              step =
                  λ d u u' s.
                  let l = marked d u u' ((neighbours-along pattern d u u').0 s.step) in (
                    labelled d 1,
                    record { way = step-way pattern bounds board each d 1 u u' l; step = (steps-iff pattern bounds d 1 u u').1 l },
                    λ v v' a b m. record { move = direct d v v' ((moves-iff board d 1 v v').0 m.move) },
                  );
            };
        narrower =
            record {
              agree =
                  λ u v a.
                  record {
                    part = a.part;
                    node = a.node;
                    agree = both_right (inside (everything board) v) (agrees pattern board u v) a.agree;
                  };
              step =
                  λ l u u' s.
                  let (e, k) = plain l.way l.bound u u' ((steps-iff pattern bounds l.way l.bound u u').0 s.step) in (
                    l.way,
                    record { way = two_ways l.way; step = (neighbours-along pattern l.way u u').1 k },
                    λ v v' a b m.
                        record {
                          move =
                              (moves-iff board l.way l.bound v v').1
                              (subst (λ h. Moves board (labelled l.way h) v v') (sym e) (single l.way v v' m.move));
                        },
                  );
            };
      }

  -- "With all bounds 1 the table and counts are those of the second edition": the table,
  pub ones-table : bounded_table pattern bounds board ≡ answer_table pattern board (everything board)
  ones-table = answer-same ones-same

  -- and the four counts.
  pub ones-counts : bounded_counts pattern bounds board ≡ answer_counts pattern board (everything board)
  unfolding bounded_counts answer_counts_by
  ones-counts = rw (started-same ones-same, kept_same ones-same, struck-same ones-same, rounds-same ones-same)
