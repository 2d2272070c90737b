-- Laws of a look at one node: what its next set is made from, and what a look leaves. Assumes nothing.
use Rattle.std.specs.Prelude.{◌≡◌, ◌≤◌, ◌<◌, ◌^◌}
use Rattle.base_lists.specs.Kit.{◌∙◌, sym, ap, refl, List, ℕ, length, get_or, set, length-set, get_or-eq_default, set-get_or, eq-eqb, ne_eqb}
use Rattle.base_bits.specs.Bits.{Subset, union_at}
use Rattle.base_bits.proofs.Numbers.{number_lt}
use Rattle.simulation.specs.Simulation.{Direction, forwards, backwards}
use Rattle.table.specs.Prepared.{succ_of, pred_of}
use Rattle.table_strike.specs.Strike.{survivors}
use Rattle.table_strike.proofs.Survivors.{survivors-none, survivors-subset}
use Rattle.session_strike.specs.Moves.{next_set_at, mark_beside, look_sets, look_marks}

module _ (masks : List ℕ) (moves : Direction → ℕ → List ℕ) (old : List ℕ) (v : ℕ) where
  -- ---- the next set

  -- from the two unions over the neighbours
  pub next-unions :
      {f b x r : ℕ} → f ≡ union_at old (moves forwards v) → b ≡ union_at old (moves backwards v) → x ≡ get_or old v 0 →
      r ≡ survivors (succ_of masks) (pred_of masks) f b x → r ≡ next_set_at masks moves old v
  unfolding next_set_at
  next-unions d e q p = rw (← d, ← e, ← q) p

  -- where a node has no part, none is left
  pub next-none : get_or old v 0 ≡ 0 → next_set_at masks moves old v ≡ 0
  unfolding next_set_at
  next-none e =
      ap (survivors (succ_of masks) (pred_of masks) (union_at old (moves forwards v)) (union_at old (moves backwards v))) e
      ∙ survivors-none (succ_of masks) (pred_of masks) _ _

  -- none comes in
  pub next-subset : Subset (next_set_at masks moves old v) (get_or old v 0)
  unfolding next_set_at
  next-subset = survivors-subset (succ_of masks) (pred_of masks) _ _ (get_or old v 0)

  pub next-lt : next_set_at masks moves old v < 2 ^ 32
  unfolding next_set_at survivors
  next-lt = number_lt 32 _

  -- ---- what a look leaves

  module _ (marks : List ℕ) where
    -- the set stays
    pub look-same : next_set_at masks moves old v ≡ get_or old v 0 → (old ≡ look_sets masks moves old v) × (marks ≡ look_marks masks moves old marks v)
    unfolding look_sets look_marks
    look-same e = (sym (ap (set old v) e ∙ set-get_or old v 0), rw (eq-eqb _ _ e))

    -- or it is another
    pub look-other :
        (next_set_at masks moves old v ≡ get_or old v 0 → ⊥) →
        (set old v (next_set_at masks moves old v) ≡ look_sets masks moves old v) × (mark_beside (length old) moves marks v ≡ look_marks masks moves old marks v)
    unfolding look_sets look_marks
    look-other e = (refl, rw (ne_eqb _ _ e))

  pub length-look : length (look_sets masks moves old v) ≡ length old
  unfolding look_sets
  length-look = length-set old v _

  -- past the table's end it stays
  pub next-out : length old ≤ v → next_set_at masks moves old v ≡ get_or old v 0
  next-out h = let none = get_or-eq_default old 0 h in next-none none ∙ sym none
