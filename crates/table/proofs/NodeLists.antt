-- Laws of the list of all nodes. Assumes nothing.
use Rattle.std.specs.Prelude.{◌≡◌, ◌≤◌, ◌<◌}
use Rattle.base_lists.specs.Kit.{subst, true, cond, List, ℕ, eqb, eqb_refl, length, get_or, arith, ne_eqb}
use Rattle.base_lists.specs.List.{any, tabulate, Below}
use Rattle.base_lists.specs.Below.{count_below, least_below}
use Rattle.base_lists.proofs.Below.{least_below-is, count_below-all}
use Rattle.base_lists.proofs.Ranks.{count-images}
use Rattle.base_lists.proofs.Tests.{T_true, at-any}
use Rattle.base_lists.proofs.Tables.{length-tabulate, get_d_tabulate, tabulate-same}
use Rattle.table.specs.Fill.{listed, marks_of, Distinct, all_nodes, NodeList}

module _ (n : ℕ) where
  pub length-all : length (all_nodes n) ≡ n
  unfolding all_nodes
  length-all = length-tabulate n (λ v. v)

  all-at : (v : ℕ) → v < n → get_or (all_nodes n) v 0 ≡ v
  unfolding all_nodes
  all-at v h = get_d_tabulate n (λ v. v) v 0 h

  -- it has each node once
  pub all_list : n ≤ 65536 → NodeList n (all_nodes n)
  unfolding Distinct Below
  all_list short =
      record {
        below = λ i h. let l = rw length-all at h in rw (all-at i l) l;
        distinct = λ i j h k e. let l = rw length-all at k in omega (arith, all-at i (omega arith), all-at j l, e);
        short = rw length-all short;
      }

  all_listed : (v : ℕ) → v < n → listed (all_nodes n) v ≡ true
  unfolding listed
  all_listed v h =
      T_true {b = any (λ w. eqb w v) (all_nodes n)}
      (at-any (λ w. eqb w v) (all_nodes n) v (rw length-all h) (rw (all-at v h) (eqb_refl v)))

  -- so that every node is marked
  pub all-marks : marks_of n (all_nodes n) ≡ tabulate n (λ v. 1)
  unfolding marks_of
  all-marks = tabulate-same n (λ v. cond (listed (all_nodes n) v) 1 0) (λ v. 1) (λ v h. rw (all_listed v h))

-- A list of nodes below n, each once, has no more than n of them.
pub list-few : {n : ℕ} {nodes : List ℕ} → NodeList n nodes → length nodes ≤ n
unfolding Distinct Below count_below
list-few {n} {nodes} list =
    let m : ℕ = length nodes in
    let at : ℕ → ℕ = λ v. least_below m (λ i. eqb (get_or nodes i 0) v) in
    subst (λ (k : ℕ). k ≤ n) (count_below-all m)
    (count-images m n (λ i. true) at
    (λ i h _. (
      get_or nodes i 0,
      list.below i h,
      least_below-is m (λ j. eqb (get_or nodes j 0) (get_or nodes i 0)) i h (eqb_refl (get_or nodes i 0)) (λ j l. ne_eqb _ _ (list.distinct j i l h)),
    )))
