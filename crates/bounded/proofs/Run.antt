-- The counts of a pattern with bounds are those of its row of sets, and the table is the row's last set, or all 0. Assumes nothing.
use Rattle.std.specs.Prelude.{◌≡◌, ◌≤◌, ◌<◌, ◌+◌}
use Rattle.base_lists.specs.Kit.{◌∙◌, sym, subst, List, map, ℕ, suc, le_refl, length, arith}
use lib.Count.{ones}
use Rattle.base_lists.specs.List.{sum, tabulate}
use Rattle.base_lists.proofs.Tests.{T_false}
use Rattle.graph.specs.Circuit.{Circuit}
use Rattle.simulation.specs.Closed.{◌⊆◌}
use Rattle.table_row.specs.Problem.{Problem}
use Rattle.table_row.specs.Reading.{InTable}
use Rattle.table_row.specs.Row.{row_of, row_from, last_of}
use Rattle.table_row.proofs.Answer as Of
use Rattle.table_row.proofs.Counting.{started-ones, rounds-differ, rounds-last}
use Rattle.table_row.proofs.Meaning.{last_fits}
use Rattle.table_row.proofs.Row.{row_fits, row_inside, row_in}
use Rattle.table_row.proofs.Sets.{same-pairs}
use Rattle.bounded.specs.Problem.{Bounds, Label, bounded_problem, bounded_table, bounded_counts}
use Rattle.bounded.specs.Run.{BoundedSets, BoundedRun}
use Rattle.bounded.proofs.Meaning.{reading}

module _ (pattern : Circuit) (bounds : List ℕ) (board : Circuit) where
  abbrev p : Problem Label
  p = bounded_problem pattern bounds board

  -- a number per node
  pub bounded-length : length (bounded_table pattern bounds board) ≡ length board.labels
  unfolding bounded_problem
  bounded-length = (Of.answer-fits p).size

  module _ (most : length pattern.labels ≤ 32) where
    -- "So started = kept + struck, and rounds are at most struck."
    pub bounded-sum : (bounded_counts pattern bounds board).started ≡ (bounded_counts pattern bounds board).kept + (bounded_counts pattern bounds board).struck
    unfolding bounded_problem bounded_counts
    bounded-sum = Of.answer-sum p most

    pub bounded-rounds : (bounded_counts pattern bounds board).rounds ≤ (bounded_counts pattern bounds board).struck
    unfolding bounded_problem bounded_counts
    bounded-rounds = Of.answer-rounds p most

    -- "kept is the number of one bits in the whole table"
    pub bounded-ones : (bounded_counts pattern bounds board).kept ≡ sum (map ones (bounded_table pattern bounds board))
    unfolding bounded_problem bounded_counts
    bounded-ones = Of.answer-ones p most

    module _ (each : Bounds pattern bounds) where
      -- a set that the next one has whole is the next one
      repeats : (k : ℕ) → BoundedSets pattern bounds board k ⊆ BoundedSets pattern bounds board (suc k) → row_of p (suc k) ≡ row_of p k
      unfolding bounded_problem
      repeats k inside =
          same-pairs (row_of p (suc k)) (row_of p k) ((row_fits p (suc k)).size ∙ sym (row_fits p k).size) (row_inside p k)
          (λ u v m. (row_in p (reading pattern bounds board each) (suc k) u v).1 (inside u v ((row_in p (reading pattern bounds board each) k u v).0 m)))

      -- The row, as it is run, and its last set.
      pub bounded-run : (c : BoundedRun pattern bounds board (bounded_counts pattern bounds board).started (bounded_counts pattern bounds board).rounds) × (c.table (bounded_counts pattern bounds board).rounds ≡ last_of p)
      unfolding bounded_problem bounded_counts row_of row_from
      bounded-run =
          let last = rounds-last p most in
          let sets = row_in p (reading pattern bounds board each) in (
            record {
              table = row_of p;
              holds = sets;
              started = started-ones p most;
              differ = λ k h inside. rounds-differ p most k h (repeats k inside);
              rest = λ k h u v m.
                  let stays : row_of p k ≡ row_of p (suc k) = last k h ∙ sym (last (suc k) (omega arith)) in
                  (sets (suc k) u v).0 (subst (λ (t : List ℕ). InTable t u v) stays ((sets k u v).1 m));
            },
            last _ (le_refl _),
          )

  -- the table is the row's last set where every part occurs in that,
  pub bounded-found : ((u : ℕ) → u < length pattern.labels → (v : ℕ) × InTable (last_of p) u v) → bounded_table pattern bounds board ≡ last_of p
  unfolding bounded_problem
  bounded-found all = Of.answer-all p ((Of.occur-iff p (last_fits p)).1 all)

  -- and "If some part is left without a node, the table is all 0"
  pub bounded-missing : (u : ℕ) → u < length pattern.labels → ((v : ℕ) → InTable (last_of p) u v → ⊥) → bounded_table pattern bounds board ≡ tabulate (length board.labels) (λ v. 0)
  unfolding bounded_problem
  bounded-missing u h none = Of.answer-none p (T_false (λ t. let (v, m) = (Of.occur-iff p (last_fits p)).0 t u h in none v m))
