-- Striking may begin with any table between the last one and the agreement: it comes to the same last set. Such a table is had from the
-- last one of a problem that asks no more. Assumes nothing.
use Rattle.std.specs.Prelude.{◌≡◌, ◌≤◌}
use Rattle.base_lists.specs.Kit.{◌∙◌, sym, List, ℕ, suc, zero, lt_of_le_of_lt, length, get_or}
use Rattle.base_bits.proofs.Numbers.{subset-le}
use Rattle.simulation.specs.Closed.{◌⊆◌, Refine}
use Rattle.table_row.specs.Problem.{Problem, Agreeing, MoveOf, with_moves}
use Rattle.table_row.specs.Row.{in_table, start_of, strike_of, row_from, last_of}
use Rattle.table_row.specs.Reading.{InTable, TableOf, Wider, Begins}
use Rattle.table_row.proofs.Sets.{same-pairs}
use Rattle.table_row.proofs.Row.{start_fits, start-in, strike-fits, strike-in, strike-inside}
use Rattle.table_row.proofs.Meaning.{last_fits, last-agrees, last-own}
use Rattle.table_row.proofs.Wider.{last_wider, fewer-moves}

-- ---- tables between the last set and the first

module _ {D : Type 0} (p : Problem D) where
  -- the first table is one to begin with
  pub start-begins : Begins p (start_of p)
  start-begins =
      record {
        long = (start_fits p).size;
        within = λ u v m. m;
        contains = λ u v m. (start-in p u v).1 (last-agrees p u v m);
      }

  module _ {t : List ℕ} (b : Begins p t) where
    -- its sets have parts of the problem only, and its pairs agree
    pub begins-fits : TableOf p t
    unfolding in_table
    begins-fits =
        record {
          size = b.long;
          small = λ v. lt_of_le_of_lt (subset-le (get_or (start_of p) v 0) (get_or t v 0) (λ u. b.within u v)) ((start_fits p).small v);
        }

    pub begins-agree : InTable t ⊆ Agreeing p
    begins-agree u v m = (start-in p u v).0 (b.within u v m)

-- ---- where striking leads

module _ {D : Type 0} (p : Problem D) (most : p.parts ≤ 32) where
  module _ {t : List ℕ} (b : Begins p t) where
    -- a round leaves the table between the two
    pub begins-next : Begins p (strike_of p t)
    unfolding Refine
    begins-next =
        record {
          long = (strike-fits p t).size;
          within = λ u v m. b.within u v (strike-inside p (begins-fits p b) u v m);
          contains =
              λ u v s.
              (strike-in p (begins-fits p b) u v).1 (
                b.contains u v s,
                λ d u' l.
                    let (v', m, s') = (last-own p most).closed.partner d u v u' s l in
                    (v', m, b.contains u' v' s'),
              );
        }

    -- where it strikes nothing, the set is closed, and so it is the largest
    pub begins-rest : strike_of p t ≡ t → t ≡ last_of p
    unfolding Refine
    begins-rest stops =
        same-pairs t (last_of p) (b.long ∙ sym (last_fits p).size)
        ((last-own p most).contains (InTable t)
        (record {
          agree = begins-agree p b;
          partner = λ d u v u' s l. ((strike-in p (begins-fits p b) u v).0 (rw stops s)).1 d u' l;
        }))
        b.contains

  pub begins-times : {t : List ℕ} → Begins p t → (k : ℕ) → Begins p (row_from p t k)
  unfolding row_from
  begins-times b zero = b
  begins-times b (suc k) = begins-next (begins-times b k)

-- ---- the last table of a problem that asks no more

module _ {D E : Type 0} {p : Problem D} {q : Problem E} (w : Wider p q) (most : p.parts ≤ 32) (most' : q.parts ≤ 32) where
  -- is one to begin with, where it has only pairs that agree,
  pub last_begins : (t : List ℕ) → length t ≡ p.nodes → InTable t ⊆ Agreeing p → ((u v : ℕ) → Agreeing p u v → InTable (last_of q) u v → InTable t u v) → Begins p t
  last_begins t long inside more =
      record {
        long = long;
        within = λ u v m. (start-in p u v).1 (inside u v m);
        contains = λ u v m. more u v (last-agrees p u v m) (last_wider w most most' u v m);
      }

-- With fewer moves of the board striking may go on from where it was.
pub moves-begin :
    {D : Type 0} (p : Problem D) (moves : D → ℕ → List ℕ) → p.parts ≤ 32 →
    ((d : D) (v v' : ℕ) → MoveOf (with_moves p moves) d v v' → MoveOf p d v v') → Begins (with_moves p moves) (last_of p)
unfolding with_moves
moves-begin p moves most fewer =
    last_begins (fewer-moves p moves fewer) most most (last_of p) (last_fits p).size
    (λ u v m. let a = last-agrees p u v m in record { part = a.part; node = a.node; agree = a.agree }) (λ u v a m. m)
