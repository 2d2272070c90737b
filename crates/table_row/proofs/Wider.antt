-- Problems side by side: one that asks no more has larger sets, row by row; two that ask the same have the same tables and counts.
-- Assumes nothing.
use Rattle.std.specs.Prelude.{◌≡◌, ◌≤◌, ◌-◌}
use Rattle.base_lists.specs.Kit.{◌∙◌, sym, ap, ap₂, fun_ext, not, List, ℕ, suc, zero}
use Rattle.base_lists.specs.Below.{count_below}
use Rattle.simulation.specs.Closed.{◌⊆◌}
use Rattle.table_row.specs.Problem.{Problem, MoveOf, with_moves}
use Rattle.table_row.specs.Row.{pairs, same, row_from, row_of, started_of, last_of, kept_of, struck_of, rounds_of}
use Rattle.table_row.specs.Reading.{InTable, Wider, Equivalent}
use Rattle.table_row.proofs.Sets.{same-pairs}
use Rattle.table_row.proofs.Row.{wider-row, row_fits, row_in, self-reading}
use Rattle.table_row.proofs.Meaning.{last-own}

-- ---- a problem that asks no more

module _ {D E : Type 0} {p : Problem D} {q : Problem E} (w : Wider p q) where
  -- has more pairs in each set of its row,
  pub row-wider : (k : ℕ) → InTable (row_of p k) ⊆ InTable (row_of q k)
  row-wider k u v m =
      (row_in q (self-reading q) k u v).1 (wider-row w.agree w.step k u v ((row_in p (self-reading p) k u v).0 m))

  -- and so in the last.
  pub last_wider : p.parts ≤ 32 → q.parts ≤ 32 → InTable (last_of p) ⊆ InTable (last_of q)
  last_wider most most' =
      let here = (last-own p most).closed in
      (last-own q most').contains (InTable (last_of p))
      (record {
        agree = λ u v m. w.agree u v (here.agree u v m);
        partner =
            λ e u v u' m l.
            let (d, s, more) = w.step e u u' l in
            let (v', n, m') = here.partner d u v u' m s in
            (v', more v v' (here.agree u v m) (here.agree u' v' m') n, m');
      })

-- ---- one thing changed

-- and it asks no more than the same with fewer moves of the board
pub fewer-moves :
    {D : Type 0} (p : Problem D) (moves : D → ℕ → List ℕ) →
    ((d : D) (v v' : ℕ) → MoveOf (with_moves p moves) d v v' → MoveOf p d v v') → Wider (with_moves p moves) p
unfolding with_moves
fewer-moves p moves fewer =
    record {
      agree = λ u v a. record { part = a.part; node = a.node; agree = a.agree };
      step = λ d u u' l. (d, record { way = l.way; step = l.step }, λ v v' a b m. fewer d v v' m);
    }

-- ---- two problems that ask the same

module _ {D E : Type 0} {p : Problem D} {q : Problem E} (s : Equivalent p q) where
  -- both have the same row,
  pub row_same : row_of p ≡ row_of q
  row_same =
      fun_ext
      (λ k.
      same-pairs (row_of p k) (row_of q k) ((row_fits p k).size ∙ s.nodes ∙ sym (row_fits q k).size) (row-wider s.wider k)
      (row-wider s.narrower k))

  -- and so the same last table and the same counts.
  pub last-same : last_of p ≡ last_of q
  unfolding last_of started_of row_of row_from
  last-same = ap (λ (x : ℕ → List ℕ). x (pairs (x zero))) row_same

  pub started-same : started_of p ≡ started_of q
  unfolding started_of row_of row_from
  started-same = ap (λ (x : ℕ → List ℕ). pairs (x zero)) row_same

  pub kept_same : kept_of p ≡ kept_of q
  unfolding kept_of
  kept_same = ap pairs last-same

  pub struck-same : struck_of p ≡ struck_of q
  unfolding struck_of
  struck-same = ap₂ (λ (a b : ℕ). a - b) started-same kept_same

  pub rounds-same : rounds_of p ≡ rounds_of q
  unfolding rounds_of started_of row_of row_from
  rounds-same = ap (λ (x : ℕ → List ℕ). count_below (pairs (x zero)) (λ k. not (same (x (suc k)) (x k)))) row_same
