-- The tables of the row, pair by pair: the first holds the pairs that agree, and each further one the pairs of the last whose steps have
-- partners in it. So they are the row of sets of the theory, which contains every closed set. Assumes nothing.
use Rattle.std.specs.Prelude.{◌↔◌, ◌&&◌}
use Rattle.base_lists.specs.Kit.{List, ℕ, suc, zero}
use Rattle.base_lists.proofs.Tests.{both_true, both_left, both_right}
use Rattle.simulation.specs.Closed.{Relation, ◌⊆◌, Refine, Row}
use Rattle.simulation.proofs.Row.{row-falls}
use Rattle.table_row.specs.Problem.{Problem, Agreeing, StepOf, MoveOf}
use Rattle.table_row.specs.Row.{in_table, start_of, supported, strike_of, row_from, row_of}
use Rattle.table_row.specs.Reading.{InTable, TableOf, Reading}
use Rattle.table_row.proofs.Tests.{supported-iff}
use Rattle.table_row.proofs.Sets.{fits-node, fits-part, table_fits, table-in}

-- ---- rows of arbitrary sets

-- A larger first set and weaker requirements give larger sets: each new step is an old one, perhaps with another label, whose moves
-- between pairs of the first set are moves of the new label.
pub wider-row :
    {D E : Type 0} {Step Move : D → Relation} {Step' Move' : E → Relation} {First First' : Relation} → First ⊆ First' →
    ((e : E) (u u' : ℕ) → Step' e u u' → (d : D) × Step d u u' × ((v v' : ℕ) → First u v → First u' v' → Move d v v' → Move' e v v')) →
    (n : ℕ) → Row Step Move First n ⊆ Row Step' Move' First' n
unfolding Row Refine
wider-row larger weaker zero u v r = larger u v r
wider-row {Step} {Move} {First} larger weaker (suc n) u v r = (
  wider-row larger weaker n u v r.0,
  λ e u' l.
      let (d, q, more) = weaker e u u' l in
      let (v', m, s) = r.1 d u' q in
      (v', more v v' (row-falls Step Move First n u v r.0) (row-falls Step Move First n u' v' s) m, wider-row larger weaker n u' v' s),
)

module _ {D : Type 0} (p : Problem D) where
  -- ---- the first table

  pub start_fits : TableOf p (start_of p)
  unfolding start_of
  start_fits = table_fits p.nodes p.parts p.agree

  -- it holds the pairs that agree
  pub start-in : (u v : ℕ) → InTable (start_of p) u v ↔ Agreeing p u v
  unfolding start_of
  start-in u v =
      let all = table-in p.nodes p.parts p.agree u v in (
        λ m. let (h, l, a) = all.0 m in record { part = h; node = l; agree = a },
        λ c. all.1 (c.part, c.node, c.agree),
      )

  -- ---- striking

  pub strike-fits : (t : List ℕ) → TableOf p (strike_of p t)
  unfolding strike_of
  strike-fits t = table_fits p.nodes p.parts (λ u v. in_table t u v && supported p t u v)

  -- "Each further set keeps those pairs of the last whose links have partners in the last."
  pub strike-in : {t : List ℕ} → TableOf p t → (u v : ℕ) → InTable (strike_of p t) u v ↔ Refine (StepOf p) (MoveOf p) (InTable t) u v
  unfolding strike_of Refine
  strike-in {t} f u v =
      let all = table-in p.nodes p.parts (λ u v. in_table t u v && supported p t u v) u v in
      let answers = supported-iff p t u v in (
        λ m.
            let (h, l, b) = all.0 m in
            (both_left (in_table t u v) (supported p t u v) b, answers.0 (both_right (in_table t u v) (supported p t u v) b)),
        λ (m, s). all.1 (fits-part f u v m, fits-node f u v m, both_true (in_table t u v) (supported p t u v) m (answers.1 s)),
      )

  -- the sets fall
  pub strike-inside : {t : List ℕ} → TableOf p t → InTable (strike_of p t) ⊆ InTable t
  unfolding Refine
  strike-inside f u v m = ((strike-in f u v).0 m).0

  -- ---- a row that begins with any table

  pub from-fits : {t : List ℕ} → TableOf p t → (k : ℕ) → TableOf p (row_from p t k)
  unfolding row_from
  from-fits f zero = f
  from-fits {t} f (suc k) = strike-fits (row_from p t k)

  pub from_in : {t : List ℕ} → TableOf p t → (k u v : ℕ) → InTable (row_from p t k) u v ↔ Row (StepOf p) (MoveOf p) (InTable t) k u v
  unfolding row_from Row Refine
  from_in f zero u v = (λ m. m, λ m. m)
  from_in f (suc k) u v = (
    λ m.
        let (h, s) = (strike-in (from-fits f k) u v).0 m in
        ((from_in f k u v).0 h, λ d u' l. let (v', e, r) = s d u' l in (v', e, (from_in f k u' v').0 r)),
    λ (h, s).
        (strike-in (from-fits f k) u v).1
        ((from_in f k u v).1 h, λ d u' l. let (v', e, r) = s d u' l in (v', e, (from_in f k u' v').1 r)),
  )

  -- ---- the row

  pub row_fits : (k : ℕ) → TableOf p (row_of p k)
  unfolding row_of
  row_fits k = from-fits start_fits k

  pub row_inside : (k : ℕ) → InTable (row_of p (suc k)) ⊆ InTable (row_of p k)
  unfolding row_of row_from
  row_inside k = strike-inside (row_fits k)

  -- each pair of each set agrees
  pub row-agrees : (k : ℕ) → InTable (row_of p k) ⊆ Agreeing p
  unfolding row_of
  row-agrees k u v m = (start-in u v).0 (row-falls (StepOf p) (MoveOf p) (InTable (start_of p)) k u v ((from_in start_fits k u v).0 m))

  -- The tables are the row of sets that begins with the pairs that agree, however the problem is read.
  module _ {Agree : Relation} {Step Move : D → Relation} (r : Reading p Agree Step Move) where
    pub row_in : (k u v : ℕ) → InTable (row_of p k) u v ↔ Row Step Move Agree k u v
    unfolding row_of
    row_in k u v = (
      λ m.
          wider-row (λ x y a. (r.agree x y).0 ((start-in x y).0 a))
          (λ d x x' l. (
            d,
            (r.step d x x').1 l,
            λ y y' a b n. (r.move d x y x' y' ((r.agree x y).0 ((start-in x y).0 a)) ((r.agree x' y').0 ((start-in x' y').0 b)) l).0 n,
          ))
          k u v ((from_in start_fits k u v).0 m),
      λ m.
          (from_in start_fits k u v).1
          (wider-row (λ x y a. (start-in x y).1 ((r.agree x y).1 a))
          (λ d x x' l. (d, (r.step d x x').0 l, λ y y' a b n. (r.move d x y x' y' a b ((r.step d x x').0 l)).1 n))
          k u v m),
    )

-- a problem read by itself
pub self-reading : {D : Type 0} (p : Problem D) → Reading p (Agreeing p) (StepOf p) (MoveOf p)
self-reading p =
    record {
      agree = λ u v. (λ a. a, λ a. a);
      step = λ d u u'. (λ l. l, λ l. l);
      move = λ d u v u' v' a b l. (λ m. m, λ m. m);
    }
