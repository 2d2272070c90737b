-- Only what may change is looked at: a node none of whose neighbours changed keeps its set. Assumes nothing.
use Rattle.std.specs.Prelude.{◌≡◌, ◌⊎◌, ◌<◌, ◌^◌}
use Rattle.base_lists.specs.Kit.{◌∙◌, sym, ap, refl, subst, ap₂, inl, inr, Bool, false, true, cond, not, List, ℕ, T, eqb, length, get_or, eqb-true, eqb-false}
use Rattle.base_lists.specs.List.{Occurs, Below}
use Rattle.base_lists.proofs.Tests.{true-T, false-T, both_right}
use Rattle.base_lists.proofs.Tables.{length-tabulate, get_d_tabulate, is-tabulate}
use Rattle.base_bits.specs.Bits.{union_at}
use Rattle.base_bits.proofs.Unions.{union_at-same}
use Rattle.graph.specs.Net.{driven, driving, NetOf, Net}
use Rattle.graph.proofs.Net.{driven-below, driving-below, driven-link, driving-link}
use Rattle.table.specs.Fill.{listed, fill_at}
use Rattle.graph_follow.specs.Follow.{nodes_beside}
use Rattle.table_round.specs.Pending.{changing}
use Rattle.table.specs.Prepared.{succ_of, pred_of, Tables}
use Rattle.table_strike.specs.Strike.{survivors, strike_node}
use Rattle.table_largest.specs.Rounds.{strike_table, MutualTables, Covers}
use Rattle.graph_follow.proofs.Following.{beside-occurs}
use Rattle.table.proofs.Fill.{length-fill, get_or-fill}
use Rattle.table_round.proofs.Pending.{listed-changing}
use Rattle.table_strike.proofs.Survivors.{survivors-again, strike-none}

-- ---- a round at one node

module _ (t : Tables) (old : List ℕ) where
  pub length-strike : length (strike_table t old) ≡ length old
  unfolding strike_table
  length-strike = length-tabulate (length old) (strike_node t old)

  pub strike-at : (v : ℕ) → v < length old → get_or (strike_table t old) v 0 ≡ strike_node t old v
  unfolding strike_table
  strike-at v h = get_d_tabulate (length old) (strike_node t old) v 0 h

-- A node none of whose neighbours changed in a round keeps its set in the next.
pub still :
    (t : Tables) (old : List ℕ) (v : ℕ) → v < length old →
    ((w : ℕ) → Occurs (driven t.offsets t.targets v) w → get_or (strike_table t old) w 0 ≡ get_or old w 0) →
    ((w : ℕ) → Occurs (driving t.offsets t.targets v) w → get_or (strike_table t old) w 0 ≡ get_or old w 0) →
    strike_node t (strike_table t old) v ≡ get_or (strike_table t old) v 0
unfolding strike_node
still t old v h out back =
    let new : List ℕ = strike_table t old in
    let succ : List ℕ = succ_of t.masks in
    let pred : List ℕ = pred_of t.masks in
    let f : ℕ = union_at old (driven t.offsets t.targets v) in
    let b : ℕ = union_at old (driving t.offsets t.targets v) in
    ap₂ (λ (x y : ℕ). survivors succ pred x y (get_or new v 0)) (union_at-same new old (driven t.offsets t.targets v) out)
    (union_at-same new old (driving t.offsets t.targets v) back)
    ∙ ap (survivors succ pred f b) (strike-at t old v h)
    ∙ survivors-again succ pred f b (get_or old v 0)
    ∙ sym (strike-at t old v h)

-- ---- the list of the nodes that change

module _ (t : Tables) (old : List ℕ) where
  pub covers-changing : (todo : List ℕ) → Covers t old todo → Covers t old (changing (strike_node t old) old todo)
  unfolding Covers
  covers-changing todo c v h e = go (listed todo v) refl (eqb (strike_node t old v) (get_or old v 0)) refl
    where
      go : (a : Bool) → listed todo v ≡ a → (b : Bool) → eqb (strike_node t old v) (get_or old v 0) ≡ b → strike_node t old v ≡ get_or old v 0
      go a p true q = eqb-true (strike_node t old v) (get_or old v 0) q
      go false p false q = c v h p
      go true p false q = absurd (false-T (sym (listed-changing (strike_node t old) old todo v) ∙ e) (rw (p, q) tt))

  -- writing their next sets makes the next table
  pub fill-strike : (changed : List ℕ) → Covers t old changed → fill_at (strike_node t old) changed old ≡ strike_table t old
  unfolding Covers strike_table
  fill-strike changed c =
      is-tabulate (length old) (strike_node t old) (fill_at (strike_node t old) changed old) (length-fill (strike_node t old) changed old)
      (λ v h. get_or-fill (strike_node t old) changed old v h ∙ go v h (listed changed v) refl)
    where
      go : (v : ℕ) → v < length old → (b : Bool) → listed changed v ≡ b → cond b (strike_node t old v) (get_or old v 0) ≡ strike_node t old v
      go v h true e = refl
      go v h false e = sym (c v h e)

  -- a node of the list has another set then
  pub changing-differs : (todo : List ℕ) (v : ℕ) → T (listed (changing (strike_node t old) old todo) v) → strike_node t old v ≡ get_or old v 0 → ⊥
  changing-differs todo v m e = go (eqb (strike_node t old v) (get_or old v 0)) refl
    where
      go : (b : Bool) → eqb (strike_node t old v) (get_or old v 0) ≡ b → ⊥
      go true q =
          let other : T (not (eqb (strike_node t old v) (get_or old v 0))) = both_right (listed todo v) _ (subst T (listed-changing (strike_node t old) old todo v) m) in
          subst (λ (x : Bool). T (not x)) q other
      go false q = eqb-false (strike_node t old v) (get_or old v 0) q e

  -- ---- what lies beside the nodes that changed covers the next round

  module _ (net : Net (length old) t.offsets t.targets) (both : MutualTables t (length old)) (small : (v : ℕ) → get_or (strike_table t old) v 0 < 2 ^ 32)
      (changed : List ℕ) (c : Covers t old changed) (todo : List ℕ)
      (woke : (w v : ℕ) → T (listed changed w) → Occurs (nodes_beside t.offsets t.targets (strike_table t old) w) v → T (listed todo v)) where
    pub covers-next : Covers t (strike_table t old) todo
    unfolding Covers MutualTables Below
    covers-next v l e = go (eqb (get_or (strike_table t old) v 0) 0) refl
      where
        new : List ℕ
        new = strike_table t old

        h : v < length old
        h = rw length-strike at l

        same : (w : ℕ) → w < length old → (get_or (strike_table t old) v 0 ≡ 0 → ⊥) →
            Occurs (driven t.offsets t.targets w) v ⊎ Occurs (driving t.offsets t.targets w) v → get_or (strike_table t old) w 0 ≡ get_or old w 0
        same w k some o = at (listed changed w) refl
          where
            at : (b : Bool) → listed changed w ≡ b → get_or (strike_table t old) w 0 ≡ get_or old w 0
            at true p = absurd (false-T e (woke w v (true-T p) (beside-occurs t.offsets t.targets (strike_table t old) w v (small v) some o)))
            at false p = strike-at t old w k ∙ c w k p

        go : (b : Bool) → eqb (get_or (strike_table t old) v 0) 0 ≡ b → strike_node t (strike_table t old) v ≡ get_or (strike_table t old) v 0
        go true q =
            let z : get_or (strike_table t old) v 0 ≡ 0 = eqb-true _ 0 q in
            strike-none t (strike_table t old) v z ∙ sym z
        go false q =
            let some = eqb-false (get_or (strike_table t old) v 0) 0 q in
            still t old v h
            (λ w o.
            let k : w < length old = subst (λ (x : ℕ). x < length old) o.2 (driven-below net v h o.0 o.1) in
            same w k some (inr ((both v w h k).0 o)))
            (λ w o.
            let k : w < length old = subst (λ (x : ℕ). x < length old) o.2 (driving-below net v h o.0 o.1) in
            same w k some (inl ((both w v k h).1 o)))

-- the two neighbour tables of a graph have the same links
pub net-mutual : {n : ℕ} {starts ends : List ℕ} (t : Tables) → NetOf n starts ends t.offsets t.targets → MutualTables t n
unfolding MutualTables
net-mutual t net v w h k = (λ o. (driving-link net w v k).1 ((driven-link net v w h).0 o), λ o. (driven-link net v w h).1 ((driving-link net w v k).0 o))
