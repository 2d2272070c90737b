-- A search that has reached every node: nothing that it looks at changes it, so that all that is left of it is what it
-- has. Assumes nothing.
use Rattle.std.specs.Prelude.{◌≡◌, ◌∷◌, ◌-◌, ◌+◌}
use Rattle.base_lists.specs.Kit.{◌∙◌, ap, refl, cond, Bool, false, true, List, [], ℕ, suc, zero, suc-ne-zero, eqb, get_or, length, take, drop, arith}
use Rattle.graph.specs.Bfs.{SearchState, visit, scan, level, levels, missing, state_of, Searching}
use Rattle.graph.specs.Search.{far}
use Rattle.graph.proofs.BfsSteps.{reached-length}
use Rattle.graph_search.specs.declared.Frontier.{Frontier}
use Rattle.graph_search.specs.Until.{onward}

-- where none is missing, the first is reached, and none of the others is missing
split : (x m : ℕ) → cond (eqb x far) (suc m) m ≡ 0 → (eqb x far ≡ false) × (m ≡ 0)
split x m = go (eqb x far) refl
  where
    go : (b : Bool) → eqb x far ≡ b → cond b (suc m) m ≡ 0 → (eqb x far ≡ false) × (m ≡ 0)
    go true p h = absurd (suc-ne-zero _ h)
    go false p h = (p, h)

-- so no node is yet to be reached
none-far : (xs : List ℕ) (v : ℕ) → missing xs ≡ 0 → eqb (get_or xs v 0) far ≡ false
unfolding missing
none-far [] v e = refl
none-far (x ∷ xs) zero e = (split x (missing xs) e).0
none-far (x ∷ xs) (suc v) e = none-far xs v (split x (missing xs) e).1

module _ {s : SearchState} (full : missing s.dist ≡ 0) where
  visit-full : (d v : ℕ) → visit d s v ≡ s
  unfolding visit
  visit-full d v = rw (none-far s.dist v full) refl

  scan-full : (d : ℕ) (vs : List ℕ) → scan d s vs ≡ s
  unfolding scan
  scan-full d [] = refl
  scan-full d (v ∷ vs) = ap (λ (t : SearchState). scan d t vs) (visit-full d v) ∙ scan-full d vs

  level-full : (adj : ℕ → List ℕ) (d : ℕ) (vs : List ℕ) → level adj d s vs ≡ s
  unfolding level
  level-full adj d [] = refl
  level-full adj d (v ∷ vs) = ap (λ (t : SearchState). level adj d t vs) (scan-full d (adj v)) ∙ level-full adj d vs

  levels-full : (adj : ℕ → List ℕ) (r d lo : ℕ) → levels adj r d lo s ≡ s
  unfolding levels
  levels-full adj zero d lo = refl
  levels-full adj (suc r) d lo =
      ap (λ (t : SearchState). levels adj r (suc d) (length s.reached) t) (level-full adj (suc d) (drop lo s.reached))
      ∙ levels-full adj r (suc d) (length s.reached)

  -- nothing is left
  pub onward-full : (adj : ℕ → List ℕ) (m : ℕ) (f : Frontier) → onward adj m f s ≡ s
  unfolding onward
  onward-full adj m f =
      ap (λ (t : SearchState). levels adj (m - f.depth) f.depth f.level t) (level-full adj f.depth (drop f.looked (take f.level s.reached)))
      ∙ levels-full adj (m - f.depth) f.depth f.level

-- those reached and those missing are all nodes
pub reached-missing : {dist queue : List ℕ} {tail : ℕ} → Searching dist queue tail → tail + missing (state_of dist queue tail).dist ≡ length dist
reached-missing {dist} {queue} {tail} k =
    let c = k.ready.counted in
    let l = reached-length dist queue tail k in
    omega arith
