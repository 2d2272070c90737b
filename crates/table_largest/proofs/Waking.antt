-- The list of the nodes to look at next, made with marks: it has what lies beside the nodes that changed, each once, and without its marks the
-- table of marks is as it was. Assumes nothing.
use Rattle.std.specs.Prelude.{◌≡◌, ◌<◌}
use Rattle.base_lists.specs.Kit.{◌∙◌, sym, ap, refl, Bool, false, true, cond, List, [], ℕ, zero-le, not-suc-le-zero, T, eqb, length, get_or, replicate, length-replicate, get_or-replicate, ext_get_or, arith, eqb-true, eqb-false}
use Rattle.base_lists.specs.List.{Occurs, Below}
use Rattle.base_lists.proofs.Tests.{T_true, false-T}
use Rattle.graph.specs.Bfs.{SearchState, level, SearchReady, state_of, Searching}
use Rattle.graph.specs.Search.{far}
use Rattle.graph.proofs.BfsSteps.{ready-level, missing-all}
use Rattle.graph.proofs.BfsScan.{elem, occurs-elem, below-elem, targets, targets-from, to-targets, level-scan, after-new, scan-dist}
use Rattle.graph.proofs.Reached.{Listed, listed-scan}
use Rattle.table.specs.Fill.{listed, fill_at}
use Rattle.table.proofs.Fill.{listed-occurs, occurs-listed, length-fill, get_or-fill}

-- nothing is marked
unfoldable pub unmarked : ℕ → SearchState
unmarked n = record { dist = replicate n far; reached = [] }

unmarked-ready : (n : ℕ) → SearchReady n (unmarked n)
unfolding unmarked Below
unmarked-ready n = record { size = length-replicate n far; counted = omega (arith, missing-all n); inside = λ i h. absurd (not-suc-le-zero h) }

unmarked-listed : (n : ℕ) → Listed n (unmarked n)
unfolding unmarked
unmarked-listed n =
    record {
      near = λ v o. absurd (not-suc-le-zero o.1);
      complete = λ v h f. absurd (f (get_or-replicate n v far 0 h));
      distinct = λ i j a b q. not-suc-le-zero b;
    }

-- the tables at the start
pub marks-searching : {n : ℕ} {marks todo : List ℕ} → marks ≡ replicate n far → length todo ≡ n → Searching marks todo 0
unfolding state_of unmarked
marks-searching {n} {marks} {todo} e l =
    let long : length marks ≡ n = ap length e ∙ length-replicate n far in
    record {
      room = omega arith;
      within = zero-le;
      ready = rw (long, e) (unmarked-ready n);
    }

-- ---- what is listed

module _ {n : ℕ} (adj : ℕ → List ℕ) (inside : (v : ℕ) → v < n → Below n (adj v)) (changed : List ℕ) (b : Below n changed) where
  abbrev woken : SearchState
  woken = level adj 0 (unmarked n) changed

  targets-below : Below n (targets adj changed)
  unfolding Below
  targets-below i h =
      let w = get_or (targets adj changed) i 0 in
      let (f, m, o) = targets-from adj w changed (occurs-elem w (targets adj changed) (i, h, refl)) in
      below-elem n w (adj f) (inside f (below-elem n f changed b m)) o

  woken-listed : Listed n woken
  woken-listed =
      rw level-scan (listed-scan n 0 (unmarked n) (targets adj changed) (unmarked-ready n) (unmarked-listed n) targets-below (omega arith))

  -- what lies beside a node that changed
  pub woken-beside : (w v : ℕ) → T (listed changed w) → Occurs (adj w) v → T (listed woken.reached v)
  unfolding unmarked
  woken-beside w v m o =
      let t : T (elem v (targets adj changed)) = to-targets adj w v changed (occurs-elem w changed (listed-occurs changed w m)) (occurs-elem v (adj w) o) in
      let h : v < n = below-elem n v (targets adj changed) targets-below t in
      let marked : get_or woken.dist v 0 ≡ 0 =
      ap (λ (s : SearchState). get_or s.dist v 0) (level-scan adj 0 (unmarked n) changed) ∙ scan-dist 0 (unmarked n) (targets adj changed) v
      ∙ after-new 0 (get_or (replicate n far) v 0) (elem v (targets adj changed)) (get_or-replicate n v far 0 h) (T_true t) in
      occurs-listed woken.reached v (woken-listed.complete v h (λ q. omega (arith, marked)))

  -- the marks are those of the list
  pub woken-unmarked : fill_at (λ v. far) woken.reached woken.dist ≡ replicate n far
  woken-unmarked =
      let size : length woken.dist ≡ n = (ready-level n adj 0 (unmarked n) changed inside (unmarked-ready n) b (omega arith)).size in
      ext_get_or 0 (fill_at (λ v. far) woken.reached woken.dist) (replicate n far)
      (length-fill (λ v. far) woken.reached woken.dist ∙ size ∙ sym (length-replicate n far))
      (λ v h.
      let h' : v < length woken.dist = rw length-fill at h in
      get_or-fill (λ v. far) woken.reached woken.dist v h' ∙ go v (rw size at h') (listed woken.reached v) refl ∙ sym (get_or-replicate n v far 0 (rw size at h')))
    where
      go : (v : ℕ) → v < n → (m : Bool) → listed woken.reached v ≡ m → cond m far (get_or woken.dist v 0) ≡ far
      go v h true e = refl
      go v h false e = same (get_or woken.dist v 0) (λ f. false-T e (occurs-listed woken.reached v (woken-listed.complete v h f)))
        where
          same : (x : ℕ) → ((x ≡ far → ⊥) → ⊥) → x ≡ far
          same x f = at (eqb x far) refl
            where
              at : (b : Bool) → eqb x far ≡ b → x ≡ far
              at true q = eqb-true x far q
              at false q = absurd (f (eqb-false x far q))
