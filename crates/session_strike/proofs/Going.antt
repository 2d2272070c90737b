-- The loop that goes on from a table: what it keeps, that it ends, and that it leads to the last table. Assumes nothing.
use Rattle.std.specs.Prelude.{◌≡◌, ◌≤◌, ◌<◌}
use Rattle.base_lists.specs.Kit.{◌∙◌, sym, ap, ap₂, refl, Bool, false, true, cond, not, List, ℕ, suc, zero, eqb, ltb, length, get_or, set, arith, le-ltb, lt-ltb, eqb-true, not-true, ltb-false, eqb-false, ltb-true}
use Rattle.base_lists.proofs.Below.{least_below-at}
use Rattle.base_lists.proofs.Tests.{T_true, T_false, false-T}
use Rattle.base_bits.proofs.Counts.{size_less}
use Rattle.base_bits.specs.Bits.{Words}
use Rattle.base_bits.proofs.Numbers.{words-set}
use Rattle.graph.specs.Circuit.{Circuit}
use Rattle.simulation.specs.Simulation.{Direction}
use Rattle.table.specs.First.{Begins}
use Rattle.table.specs.Host.{everything}
use Rattle.table.specs.Row.{pairs, problem_by, problem_of, last_table}
use Rattle.table.proofs.Pairs.{pairs-le}
use Rattle.table.proofs.Sets.{fits_word}
use Rattle.table_row.proofs.Begin.{begins-fits}
use Rattle.session_strike.specs.Going.{MovesFollow, UnmarkedKept}
use Rattle.session_strike.specs.Moves.{next_set_at, mark_beside, mark_both, node_at, unmark, look_sets, look_marks, first_word, look_on, left, settled, settled_from}
use Rattle.session_strike.proofs.Looking.{next-subset, next-lt, next-out, length-look, look-same}
use Rattle.session_strike.proofs.Marking.{pairs-less, length-unmark, words-unmark, unmark-less, unmark-keeps, length-beside, words-beside, length_both, words-both, none-marked}
use Rattle.session_strike.proofs.Striking.{look-begins, look-covered, rest-last}

-- What the loop keeps, whatever its lists hold: 16 words of marks, and sets of 32 bits.
pub record Standing (sets marks : List ℕ) : Type 0 where
  pub room : length marks ≡ 16
  pub in_sets : Words sets
  pub in_marks : Words marks

-- ---- the marks of a look

module _ (masks : List ℕ) (moves : Direction → ℕ → List ℕ) (old marks : List ℕ) (v : ℕ) where
  pub length-look-marks : length (look_marks masks moves old marks v) ≡ length marks
  unfolding look_marks
  length-look-marks = go (eqb (next_set_at masks moves old v) (get_or old v 0))
    where
      go : (b : Bool) → length (cond b marks (mark_beside (length old) moves marks v)) ≡ length marks
      go true = refl
      go false = length-beside (length old) moves marks v

  pub words-look-marks : Words marks → Words (look_marks masks moves old marks v)
  unfolding look_marks
  words-look-marks w = go (eqb (next_set_at masks moves old v) (get_or old v 0))
    where
      go : (b : Bool) → Words (cond b marks (mark_beside (length old) moves marks v))
      go true = w
      go false = words-beside (length old) moves marks v w

  pub words-look-sets : Words old → Words (look_sets masks moves old v)
  unfolding look_sets
  words-look-sets w = words-set old v _ w (next-lt masks moves old v)

  -- where the set is another, there are fewer pairs
  pub look-fewer : Words old → (next_set_at masks moves old v ≡ get_or old v 0 → ⊥) → pairs (look_sets masks moves old v) < pairs old
  unfolding look_sets
  look-fewer w other = go (ltb v (length old)) refl
    where
      go : (b : Bool) → ltb v (length old) ≡ b → pairs (set old v (next_set_at masks moves old v)) < pairs old
      go true l =
          pairs-less old v (next_set_at masks moves old v) (ltb-true _ _ l)
          (size_less _ _ (next-lt masks moves old v) (w v) (next-subset masks moves old v) other)
      go false l = absurd (other (next-out masks moves old v (ltb-false _ _ l)))

module _ (masks : List ℕ) (moves : Direction → ℕ → List ℕ) {sets marks : List ℕ} (s : Standing sets marks) (more : first_word marks < 16) where
  -- ---- the word that is found

  abbrev j : ℕ
  j = first_word marks

  inside : j < length marks
  inside = omega (arith, s.room)

  pub word_some : zero < get_or marks j 0
  word_some =
      let t = least_below-at (length marks) (λ k. not (eqb (get_or marks k 0) 0)) inside in
      positive (get_or marks j 0) (eqb-false _ 0 (not-true _ (T_true t)))
    where
      positive : (x : ℕ) → (x ≡ 0 → ⊥) → zero < x
      positive x n = go (ltb zero x) refl
        where
          go : (b : Bool) → ltb zero x ≡ b → zero < x
          go true e = ltb-true zero x e
          go false e = let l = ltb-false zero x e in absurd (n (omega arith))

  abbrev v : ℕ
  v = node_at marks j

  abbrev rest : List ℕ
  rest = unmark marks j

  -- ---- one turn

  abbrev next_sets : List ℕ
  next_sets = look_sets masks moves sets v

  abbrev next_marks : List ℕ
  next_marks = look_marks masks moves sets rest v

  size : length rest ≡ 16
  size = length-unmark marks j inside word_some (s.in_marks j) ∙ s.room

  pub standing-next : Standing next_sets next_marks
  standing-next =
      record {
        room = length-look-marks masks moves sets rest v ∙ size;
        in_sets = words-look-sets masks moves sets rest v s.in_sets;
        in_marks = words-look-marks masks moves sets rest v (words-unmark marks j inside word_some (s.in_marks j) s.in_marks);
      }

  -- less is left
  pub left_less : left next_sets next_marks < left sets marks
  left_less = go (eqb (next_set_at masks moves sets v) (get_or sets v 0)) refl
    where
      go : (b : Bool) → eqb (next_set_at masks moves sets v) (get_or sets v 0) ≡ b → left next_sets next_marks < left sets marks
      go true p =
          let same = look-same masks moves sets v rest (eqb-true _ _ p) in
          let fewer = unmark-less marks j inside word_some (s.in_marks j) in
          omega (arith, ap pairs same.0, ap pairs same.1)
      go false p =
          let fewer = look-fewer masks moves sets rest v s.in_sets (eqb-false _ _ p) in
          let most = pairs-le next_marks in
          omega (arith, standing-next.room)

  pub look-turn : (k : ℕ) → look_on masks moves (suc k) sets marks ≡ look_on masks moves k next_sets next_marks
  unfolding look_on
  look-turn k = rw (lt-ltb j 16 more)

  -- a table to begin with stays one, and what changes is marked
  module _ (pattern host : Circuit) (follows : MovesFollow pattern host masks moves) (begins : Begins pattern host (everything host) sets) where
    pub begins-turn : Begins pattern host (everything host) next_sets
    begins-turn = look-begins pattern host follows begins v

    pub covered-turn : length sets ≤ 512 → UnmarkedKept masks moves sets marks → UnmarkedKept masks moves next_sets next_marks
    unfolding problem_by UnmarkedKept
    covered-turn few covered =
        look-covered pattern host follows sets rest begins.long v
        (λ w h other u. covered w h (T_false (λ t. false-T u (unmark-keeps marks j inside word_some (s.in_marks j) w other t))))
        (omega (arith, size))

-- ---- whether a node is marked

by_marks : {A : Type 0} (marks : List ℕ) → (first_word marks < 16 → A) → (16 ≤ first_word marks → A) → A
by_marks {A} marks some none = go (ltb (first_word marks) 16) refl
  where
    go : (b : Bool) → ltb (first_word marks) 16 ≡ b → A
    go true e = some (ltb-true _ _ e)
    go false e = none (ltb-false _ _ e)

look-done : (masks : List ℕ) (moves : Direction → ℕ → List ℕ) (k : ℕ) (sets marks : List ℕ) → 16 ≤ first_word marks → look_on masks moves k sets marks ≡ sets
unfolding look_on
look-done masks moves zero sets marks done = refl
look-done masks moves (suc k) sets marks done = rw (le-ltb (first_word marks) 16 done)

-- ---- how many looks are enough

module _ (masks : List ℕ) (moves : Direction → ℕ → List ℕ) where
  nothing_left : {sets marks : List ℕ} → Standing sets marks → left sets marks ≤ 0 → 16 ≤ first_word marks
  nothing_left {sets} {marks} s h = by_marks marks (λ more. absurd (omega (arith, left_less masks moves s more))) (λ done. done)

  -- More looks than are left to do change nothing.
  pub look-enough :
      (a b : ℕ) {sets marks : List ℕ} → Standing sets marks → left sets marks ≤ a → left sets marks ≤ b →
      look_on masks moves a sets marks ≡ look_on masks moves b sets marks
  look-enough zero b {sets} {marks} s h l =
      let done = nothing_left s h in
      look-done masks moves zero sets marks done ∙ sym (look-done masks moves b sets marks done)
  look-enough (suc a) zero {sets} {marks} s h l =
      let done = nothing_left s l in
      look-done masks moves (suc a) sets marks done ∙ sym (look-done masks moves zero sets marks done)
  look-enough (suc a) (suc b) {sets} {marks} s h l =
      by_marks marks
      (λ more.
      let less = left_less masks moves s more in
      look-turn masks moves s more a
      ∙ look-enough a b (standing-next masks moves s more) (omega arith) (omega arith)
      ∙ sym (look-turn masks moves s more b))
      (λ done. look-done masks moves (suc a) sets marks done ∙ sym (look-done masks moves (suc b) sets marks done))

  -- one turn leads where the sets and marks before it lead
  pub settled-turn :
      {sets marks : List ℕ} (s : Standing sets marks) (more : first_word marks < 16) →
      settled masks moves (next_sets masks moves s more) (next_marks masks moves s more) ≡ settled masks moves sets marks
  unfolding settled
  settled-turn {sets} {marks} s more = go (left sets marks) refl
    where
      less : left (next_sets masks moves s more) (next_marks masks moves s more) < left sets marks
      less = left_less masks moves s more

      go :
          (n : ℕ) → left sets marks ≡ n →
          look_on masks moves (left (next_sets masks moves s more) (next_marks masks moves s more)) (next_sets masks moves s more) (next_marks masks moves s more)
          ≡ look_on masks moves n sets marks
      go zero e = absurd (omega (arith, less))
      go (suc k) e = look-enough _ k (standing-next masks moves s more) (omega arith) (omega (arith, less)) ∙ sym (look-turn masks moves s more k)

-- ---- the loop

pub record Going (masks : List ℕ) (moves : Direction → ℕ → List ℕ) (sets₀ marks₀ sets marks : List ℕ) : Type 0 where
  pub long : length sets ≡ length sets₀
  pub stands : Standing sets marks
  pub leads : settled masks moves sets marks ≡ settled masks moves sets₀ marks₀

module _ (masks : List ℕ) (moves : Direction → ℕ → List ℕ) where
  pub going_start : {sets marks : List ℕ} → length marks ≡ 16 → Words sets → Words marks → Going masks moves sets marks sets marks
  going_start room in_sets in_marks =
      record { long = refl; stands = record { room = room; in_sets = in_sets; in_marks = in_marks }; leads = refl }

  module _ {sets₀ marks₀ sets marks : List ℕ} (g : Going masks moves sets₀ marks₀ sets marks) where
    -- j is the first word that marks a node
    module _ {j : ℕ} (first : j ≡ first_word marks) (h : j < 16) where
      more : first_word marks < 16
      more = omega (arith, first)

      pub going-word : zero < get_or marks j 0
      going-word = rw first (word_some masks moves g.stands more)

      -- a mark is taken away, and its node looked at
      module _ {taken sets' marks' : List ℕ} {v : ℕ} (m : (taken ≡ unmark marks j) × (v ≡ node_at marks j))
          (looked : (sets' ≡ look_sets masks moves sets v) × (marks' ≡ look_marks masks moves sets taken v)) where
        e : sets' ≡ look_sets masks moves sets (node_at marks j)
        e = looked.0 ∙ ap (look_sets masks moves sets) m.1

        q : marks' ≡ look_marks masks moves sets (unmark marks j) (node_at marks j)
        q = looked.1 ∙ ap₂ (look_marks masks moves sets) m.0 m.1

        pub going_less : left sets' marks' < left sets marks
        going_less = rw (e, q, first) (left_less masks moves g.stands more)

        pub going_next : Going masks moves sets₀ marks₀ sets' marks'
        going_next =
            record {
              long = ap length e ∙ length-look masks moves sets _ ∙ g.long;
              stands = rw (e, q, first) (standing-next masks moves g.stands more);
              leads = rw (e, q, first) (settled-turn masks moves g.stands more) ∙ g.leads;
            }

    pub going_end : first_word marks ≡ length marks → sets ≡ settled masks moves sets₀ marks₀
    unfolding settled
    going_end done = sym (look-done masks moves _ sets marks (omega (arith, g.stands.room))) ∙ g.leads

-- ---- where it leads

module _ (pattern host : Circuit) {masks : List ℕ} {moves : Direction → ℕ → List ℕ} (follows : MovesFollow pattern host masks moves) where
  -- where no node is marked, it rests
  done-last : {sets marks : List ℕ} → Standing sets marks → Begins pattern host (everything host) sets → UnmarkedKept masks moves sets marks → 16 ≤ first_word marks →
      (k : ℕ) → look_on masks moves k sets marks ≡ last_table pattern host (everything host)
  unfolding UnmarkedKept
  done-last {sets} {marks} s begins covered done k =
      look-done masks moves k sets marks done
      ∙ rest-last pattern host follows begins (λ v l. covered v l (none-marked marks (omega (arith, s.room)) v))

  -- to the last table, where the table is one to begin with and each node that changes is marked
  look-last :
      (k : ℕ) {sets marks : List ℕ} → Standing sets marks → left sets marks ≤ k → length sets ≤ 512 → Begins pattern host (everything host) sets →
      UnmarkedKept masks moves sets marks → look_on masks moves k sets marks ≡ last_table pattern host (everything host)
  look-last zero s h few begins covered = done-last s begins covered (nothing_left masks moves s h) zero
  look-last (suc k) {sets} {marks} s h few begins covered =
      by_marks marks
      (λ more.
      look-turn masks moves s more k
      ∙ look-last k (standing-next masks moves s more) (omega (arith, left_less masks moves s more)) (omega (arith, length-look masks moves sets (v masks moves s more)))
      (begins-turn masks moves s more pattern host follows begins)
      (covered-turn masks moves s more pattern host follows begins few covered))
      (λ done. done-last s begins covered done (suc k))

  -- from a table where none but two nodes can change at first
  pub from_last :
      (sets : List ℕ) (x y : ℕ) → length sets ≤ 512 → Begins pattern host (everything host) sets → UnmarkedKept masks moves sets (mark_both (length sets) x y) →
      settled_from masks moves sets x y ≡ last_table pattern host (everything host)
  unfolding settled settled_from problem_by
  from_last sets x y few begins covered =
      look-last _
      (record {
        room = length_both (length sets) x y;
        in_sets = fits_word follows.parts (begins-fits (problem_of pattern host (everything host)) begins);
        in_marks = words-both (length sets) x y;
      })
      (omega arith) few begins covered
