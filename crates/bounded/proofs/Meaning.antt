-- The row of a pattern with bounds is that of closed sets whose labels are a direction and a bound; so its answer is the largest bounded
-- simulation. Assumes nothing.
use Rattle.std.specs.Prelude.{◌≡◌, ◌↔◌, ◌≤◌, ◌<◌}
use Rattle.base_lists.specs.Kit.{refl, inl, inr, iff_rfl, iff_trans, List, ℕ, suc, zero, eqb, eqb→eq, length, get_or, arith, eq-eqb}
use Rattle.base_lists.specs.List.{Occurs}
use Rattle.base_lists.proofs.Tests.{true-T}
use Rattle.graph.specs.Circuit.{Circuit, HasLink, graph_of, circuit_graph}
use Rattle.simulation.specs.Closed.{Relation, Closed, Occurring}
use Rattle.simulation.specs.Simulation.{Direction, forwards, backwards, Along}
use Rattle.simulation.proofs.Simulation.{along-wider}
use Rattle.table_row.specs.Problem.{Way, Agreeing}
use Rattle.table_row.specs.Reading.{InTable, Reading}
use Rattle.table_row.proofs.Answer as Of
use Rattle.table.specs.Host.{KindsMatch}
use Rattle.table.specs.Row.{neighbours}
use Rattle.table.proofs.Agreement.{agrees-kinds}
use Rattle.table.proofs.Row.{neighbours-along}
use Rattle.bounded.specs.Simulation.{BoundedSimulation, LargestBounded}
use Rattle.bounded.specs.Problem.{Bounds, bounded_graph, of_bound, within, labelled, every_label, bounded_problem, bounded_table}
use Rattle.bounded.specs.Run.{Steps, Moves, Candidates}
use Rattle.graph.proofs.Chosen.{kept-iff}
use Rattle.bounded.proofs.Paths.{within_wider, within-along, within-iff}

-- ---- links and moves

-- two relations that say the same say the same in each direction
along-same : {R S : Relation} → ((v w : ℕ) → R v w ↔ S v w) → (d : Direction) (v w : ℕ) → Along R d v w ↔ Along S d v w
along-same f d v w = (along-wider (λ x y. (f x y).0) d v w, along-wider (λ x y. (f x y).1) d v w)

-- every bound from 1 to 4 has a label in each direction
has-label : (d : Direction) (h : ℕ) → 1 ≤ h → h ≤ 4 → Way every_label (labelled d h)
unfolding Way every_label
has-label d zero s m = absurd (omega arith)
has-label forwards (suc zero) s m = inl refl
has-label forwards (suc (suc zero)) s m = inr (inl refl)
has-label forwards (suc (suc (suc zero))) s m = inr (inr (inl refl))
has-label forwards (suc (suc (suc (suc zero)))) s m = inr (inr (inr (inl refl)))
has-label backwards (suc zero) s m = inr (inr (inr (inr (inl refl))))
has-label backwards (suc (suc zero)) s m = inr (inr (inr (inr (inr (inl refl)))))
has-label backwards (suc (suc (suc zero))) s m = inr (inr (inr (inr (inr (inr (inl refl))))))
has-label backwards (suc (suc (suc (suc zero)))) s m = inr (inr (inr (inr (inr (inr (inr (inl refl)))))))
has-label d (suc (suc (suc (suc (suc h))))) s m = absurd (omega arith)

-- the links of bound h, as the problem has them
pub steps-iff :
    (pattern : Circuit) (bounds : List ℕ) (d : Direction) (h u u' : ℕ) →
    Occurs (neighbours (of_bound bounds h pattern) d u) u' ↔ Steps pattern bounds (labelled d h) u u'
unfolding of_bound bounded_graph
steps-iff pattern bounds d h u u' =
    iff_trans (neighbours-along (of_bound bounds h pattern) d u u')
    (along-same
    (λ x y.
    let kept = kept-iff (λ i. eqb (get_or bounds i 0) h) pattern.starts pattern.ends x y in (
      λ l. let (i, k, t) = kept.0 l in (i, k, eqb→eq (get_or bounds i 0) h t),
      λ (i, k, e). kept.1 (i, k, true-T (eq-eqb (get_or bounds i 0) h e)),
    ))
    d u u')

-- the ends of paths, as the problem has them
pub moves-iff :
    (board : Circuit) (d : Direction) (h v v' : ℕ) → Occurs (within (neighbours board d) h v) v' ↔ Moves board (labelled d h) v v'
unfolding circuit_graph graph_of
moves-iff board d h v v' =
    iff_trans (within-iff (neighbours board d) h v v')
    (iff_trans (
      within_wider (λ x y. (neighbours-along board d x y).0) (omega arith),
      within_wider (λ x y. (neighbours-along board d x y).1) (omega arith),
    )
    (within-along (HasLink board.starts board.ends) d h v v'))

module _ (pattern : Circuit) (bounds : List ℕ) (board : Circuit) where
  pub agreeing-iff : (u v : ℕ) → Agreeing (bounded_problem pattern bounds board) u v ↔ Candidates pattern board u v
  unfolding bounded_problem circuit_graph graph_of
  agreeing-iff u v = (
    λ a. record { part = a.part; node = a.node; kinds = (agrees-kinds pattern board u v).0 a.agree },
    λ c. record { part = c.part; node = c.node; agree = (agrees-kinds pattern board u v).1 c.kinds },
  )

  module _ (each : Bounds pattern bounds) where
    -- a step has one of the eight labels
    known-label : (d : Direction) (h i : ℕ) → i < length pattern.starts → get_or bounds i 0 ≡ h → Way every_label (labelled d h)
    known-label d h i b e =
        let b' : i < length bounds = omega (arith, each.each, b) in
        has-label d h (omega (arith, each.inside.some i b', e)) (omega (arith, each.inside.most i b', e))

    pub step-way : (d : Direction) (h u u' : ℕ) → Steps pattern bounds (labelled d h) u u' → Way every_label (labelled d h)
    unfolding bounded_graph Along
    step-way forwards h u u' (i, k, e) = known-label forwards h i k.in_starts e
    step-way backwards h u u' (i, k, e) = known-label backwards h i k.in_starts e

    -- The problem asks for equal kinds, and for the links of the pattern to be met by paths within their bounds, in both directions.
    pub reading : Reading (bounded_problem pattern bounds board) (Candidates pattern board) (Steps pattern bounds) (Moves board)
    unfolding bounded_problem
    reading =
        record {
          agree = agreeing-iff;
          step = λ l u u'. (
            λ s. (steps-iff pattern bounds l.way l.bound u u').0 s.step,
            λ s. record { way = step-way l.way l.bound u u' s; step = (steps-iff pattern bounds l.way l.bound u u').1 s },
          );
          move = λ l u v u' v' a b s. (
            λ m. (moves-iff board l.way l.bound v v').0 m.move,
            λ m. record { move = (moves-iff board l.way l.bound v v').1 m },
          );
        }

-- ---- bounded simulations are closed sets in which every part occurs

module _ (pattern : Circuit) (bounds : List ℕ) (board : Circuit) {S : Relation} where
  bounded_closed :
      BoundedSimulation (bounded_graph pattern bounds) (KindsMatch pattern board) (circuit_graph board) S →
      Closed (Candidates pattern board) (Steps pattern bounds) (Moves board) S
  unfolding bounded_graph circuit_graph graph_of Along
  bounded_closed s =
      record {
        agree = λ u v m. record { part = s.part u v m; node = s.node u v m; kinds = s.kinds u v m };
        partner = λ l. go l.way l.bound;
      }
    where
      go : (d : Direction) (h u v u' : ℕ) → S u v → Steps pattern bounds (labelled d h) u u' → (v' : ℕ) × Moves board (labelled d h) v v' × S u' v'
      go forwards h u v u' m l = s.forward u v u' h m l
      go backwards h u v u' m l = s.backward u v u' h m l

  closed-bounded :
      Closed (Candidates pattern board) (Steps pattern bounds) (Moves board) S → Occurring (λ u. u < length pattern.labels) S →
      BoundedSimulation (bounded_graph pattern bounds) (KindsMatch pattern board) (circuit_graph board) S
  unfolding bounded_graph circuit_graph graph_of Along
  closed-bounded c o =
      record {
        part = λ u v m. (c.agree u v m).part;
        node = λ u v m. (c.agree u v m).node;
        kinds = λ u v m. (c.agree u v m).kinds;
        forward = λ u v u' h m l. c.partner (labelled forwards h) u v u' m l;
        backward = λ u v u' h m l. c.partner (labelled backwards h) u v u' m l;
        occurs = o.occurs;
      }

-- The table is the largest bounded simulation: "the table is the largest such set (each part occurring, unless empty)".
pub bounded-largest :
    (pattern : Circuit) (bounds : List ℕ) (board : Circuit) → Bounds pattern bounds → length pattern.labels ≤ 32 →
    LargestBounded (bounded_graph pattern bounds) (KindsMatch pattern board) (circuit_graph board) (InTable (bounded_table pattern bounds board))
unfolding bounded_problem bounded_graph
bounded-largest pattern bounds board each most =
    let l = Of.answer-largest (bounded_problem pattern bounds board) most (reading pattern bounds board each) (λ u. iff_rfl) in
    record {
      holds = closed-bounded pattern bounds board l.closed l.occurring;
      contains = λ R s. l.contains R (bounded_closed pattern bounds board s) (record { occurs = s.occurs });
    }
