-- The last table of the row is the largest closed set, however the problem is read. Assumes nothing.
use Rattle.std.specs.Prelude.{◌≡◌, ◌≤◌}
use Rattle.base_lists.specs.Kit.{ℕ, suc, arith}
use Rattle.simulation.specs.Closed.{Relation, ◌⊆◌, LargestClosed, Row}
use Rattle.simulation.proofs.Closed.{closed-same-set}
use Rattle.simulation.proofs.Row.{row-largest-agree}
use Rattle.table_row.specs.Problem.{Problem, Agreeing, StepOf, MoveOf}
use Rattle.table_row.specs.Row.{row_of, started_of, last_of}
use Rattle.table_row.specs.Reading.{InTable, TableOf, Reading}
use Rattle.table_row.proofs.Row.{row_fits, row-agrees, row_in, self-reading}
use Rattle.table_row.proofs.Counting.{row_last}

-- the largest closed set, said in another way
largest-same-set :
    {D : Type 0} {Agree : Relation} {Step Move : D → Relation} {R S : Relation} →
    R ⊆ S → S ⊆ R → LargestClosed Agree Step Move R → LargestClosed Agree Step Move S
largest-same-set there back l =
    record { closed = closed-same-set there back l.closed; contains = λ T c u v m. there u v (l.contains T c u v m) }

module _ {D : Type 0} (p : Problem D) where
  -- the table has a number per node, of as many bits as there are parts
  pub last_fits : TableOf p (last_of p)
  unfolding last_of
  last_fits = row_fits p (started_of p)

  -- its pairs agree
  pub last-agrees : InTable (last_of p) ⊆ Agreeing p
  unfolding last_of
  last-agrees = row-agrees p (started_of p)

module _ {D : Type 0} (p : Problem D) (most : p.parts ≤ 32) {Agree : Relation} {Step Move : D → Relation} (r : Reading p Agree Step Move) where
  -- a set of the row from `started` on is as large as the next
  row-stops : (k : ℕ) → started_of p ≤ k → Row Step Move Agree k ⊆ Row Step Move Agree (suc k)
  row-stops k h u v m =
      let here : row_of p k ≡ last_of p = row_last p most k h in
      let next : row_of p (suc k) ≡ last_of p = row_last p most (suc k) (omega arith) in
      (row_in p r (suc k) u v).0 (rw (next, ← here) ((row_in p r k u v).1 m))

  pub last-closed : LargestClosed Agree Step Move (InTable (last_of p))
  unfolding last_of
  last-closed =
      let n = started_of p in
      largest-same-set (λ u v. (row_in p r n u v).1) (λ u v. (row_in p r n u v).0) (row-largest-agree n (row-stops n (omega arith)))

-- read by itself
pub last-own : {D : Type 0} (p : Problem D) → p.parts ≤ 32 → LargestClosed (Agreeing p) (StepOf p) (MoveOf p) (InTable (last_of p))
last-own p most = last-closed p most (self-reading p)
