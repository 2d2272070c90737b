-- The four counts are those of the row of sets in a graph H, of which a circuit with some nodes taken is a
-- presentation. Assumes nothing.
use Rattle.std.specs.Prelude.{◌≡◌, ◌↔◌, ◌≤◌}
use Rattle.base_lists.specs.Kit.{◌∙◌, sym, ap, subst, iff_rfl, iff_trans, List, map, ℕ, suc, zero, le_of_eq, length, arith}
use lib.Count.{ones}
use Rattle.base_lists.specs.List.{sum}
use Rattle.graph.specs.Circuit.{Circuit, circuit_graph}
use Rattle.graph.specs.Graph.{Graph}
use Rattle.simulation.specs.Closed.{Relation, ◌⊆◌, Refine, Row}
use Rattle.simulation.specs.Perfect.{SameGraph}
use Rattle.simulation.specs.Simulation.{Direction}
use Rattle.simulation.proofs.Same.{same-symm}
use Rattle.simulation.proofs.Simulation.{along-wider}
use Rattle.table.specs.declared.Counts.{Counts}
use Rattle.table.specs.Host.{host_graph, KindsMatch}
use Rattle.table.specs.Refine.{counts_by, counts_of}
use Rattle.table.specs.Row.{InTable, both_directions, row_by, last_by, last_table, started_by, rounds_by}
use Rattle.table.proofs.Counting.{struck-minus, started-ones, kept-ones, rounds-differ, rounds-last}
use Rattle.table.proofs.Row.{row-for, row_first, row_fits, row_inside, both_ways}
use Rattle.table.proofs.Sets.{same-pairs}
use Rattle.demands.specs.Demands.{Sets, RowRun, RowCounts}
use Rattle.demands.specs.OneWay.{SetsAlong}

-- The row depends on the graph alone, and along both directions every link counts.
sets_same : (ways : List Direction) (P : Graph) (Agree : Relation) {H H' : Graph} → SameGraph H H' → (k : ℕ) → SetsAlong ways P Agree H k ⊆ SetsAlong ways P Agree H' k
unfolding Row Refine
sets_same ways P Agree s zero u v c = record { part = c.part; node = (s.nodes v).0 c.node; kinds = c.kinds }
sets_same ways P Agree s (suc k) u v r = (
  sets_same ways P Agree s k u v r.0,
  λ d u' p.
      let (v', m, q) = r.1 d u' p in
      (v', along-wider (λ x y. (s.links x y).0) d v v' m, sets_same ways P Agree s k u' v' q),
)

sets-both : (P : Graph) (Agree : Relation) (H : Graph) (k u v : ℕ) → SetsAlong both_directions P Agree H k u v ↔ Sets P Agree H k u v
unfolding Row Refine
sets-both P Agree H zero u v = iff_rfl
sets-both P Agree H (suc k) u v = (
  λ r. (
    (sets-both P Agree H k u v).0 r.0,
    λ d u' p. let (v', m, q) = r.1 d u' (both_ways d, p) in (v', m, (sets-both P Agree H k u' v').0 q),
  ),
  λ r. (
    (sets-both P Agree H k u v).1 r.0,
    λ d u' p. let (v', m, q) = r.1 d u' p.1 in (v', m, (sets-both P Agree H k u' v').1 q),
  ),
)

module _ (ways : List Direction) (pattern host : Circuit) (taken : List ℕ) {H : Graph} (same : SameGraph (host_graph host taken) H) where
  -- the tables of the row hold its sets
  pub set_is : (k u v : ℕ) → InTable (row_by ways pattern host taken k) u v ↔ SetsAlong ways (circuit_graph pattern) (KindsMatch pattern host) H k u v
  set_is k u v =
      iff_trans (row-for ways pattern host taken k u v)
      (sets_same ways (circuit_graph pattern) (KindsMatch pattern host) same k u v, sets_same ways (circuit_graph pattern) (KindsMatch pattern host) (same-symm same) k u v)

module _ (pattern host : Circuit) (taken : List ℕ) {H : Graph} (same : SameGraph (host_graph host taken) H) where
  pub both_is : (k u v : ℕ) → InTable (row_by both_directions pattern host taken k) u v ↔ Sets (circuit_graph pattern) (KindsMatch pattern host) H k u v
  both_is k u v = iff_trans (set_is both_directions pattern host taken same k u v) (sets-both (circuit_graph pattern) (KindsMatch pattern host) H k u v)

-- sets that the tables of the row hold
module _ (ways : List Direction) (pattern host : Circuit) (taken : List ℕ) (most : length pattern.labels ≤ 32) {R : ℕ → Relation}
    (is : (k u v : ℕ) → InTable (row_by ways pattern host taken k) u v ↔ R k u v) where
  -- a set that the next one has whole is the next one
  repeats : (k : ℕ) → R k ⊆ R (suc k) → row_by ways pattern host taken (suc k) ≡ row_by ways pattern host taken k
  repeats k inside =
      same-pairs (row_by ways pattern host taken (suc k)) (row_by ways pattern host taken k)
      ((row_fits ways pattern host taken (suc k)).size ∙ sym (row_fits ways pattern host taken k).size)
      (row_inside ways pattern host taken k)
      (λ u v m. (is (suc k) u v).1 (inside u v ((is k u v).0 m)))

  -- the row, as it is run, and its last set, which is the last table
  pub row-run :
      {s r : ℕ} → s ≡ started_by ways pattern host taken → r ≡ rounds_by ways pattern host taken →
      (c : RowRun R s r) × (c.table r ≡ last_by ways pattern host taken)
  row-run s r =
      let last = rounds-last ways pattern host taken most in (
        record {
          table = row_by ways pattern host taken;
          holds = is;
          started = rw (s, row_first) (started-ones ways pattern host taken most);
          differ = λ k h inside. rounds-differ ways pattern host taken most k (rw r at h) (repeats k inside);
          rest = λ k h u v m.
              let h' : rounds_by ways pattern host taken ≤ k = rw r at h in
              let stays : row_by ways pattern host taken k ≡ row_by ways pattern host taken (suc k) = last k h' ∙ sym (last (suc k) (omega arith)) in
              (is (suc k) u v).0 (subst (λ (t : List ℕ). InTable t u v) stays ((is k u v).1 m));
        },
        last _ (le_of_eq (sym r)),
      )

module _ (pattern host : Circuit) (taken : List ℕ) (most : length pattern.labels ≤ 32) {H : Graph} (same : SameGraph (host_graph host taken) H) where
  -- along both directions the four counts are those of the row, and its last set is the last table
  pub row_counts :
      {counts : Counts} → counts ≡ counts_of pattern host taken →
      (c : RowCounts (Sets (circuit_graph pattern) (KindsMatch pattern host) H) counts) × (c.run.table counts.rounds ≡ last_table pattern host taken)
  unfolding counts_by
  row_counts e =
      let (run, last) = row-run both_directions pattern host taken most (both_is pattern host taken same) (ap (λ (c : Counts). c.started) e) (ap (λ (c : Counts). c.rounds) e) in (
        record {
          run = run;
          kept = ap (λ (c : Counts). c.kept) e ∙ kept-ones both_directions pattern host taken most ∙ ap (λ (t : List ℕ). sum (map ones t)) (sym last);
          struck = rw e (struck-minus both_directions pattern host taken);
        },
        last,
      )
