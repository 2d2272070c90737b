-- The limit on a pattern's radius: which patterns are refused with 11, and what a list of conditions came to before the number came in. Assumes
-- nothing.
use Rattle.std.specs.Prelude.{◌≡◌, ◌↔◌, ◌∷◌, ◌++◌, ◌≤◌, ◌<◌}
use Rattle.base_lists.specs.Kit.{◌∙◌, sym, ap, refl, subst, Bool, false, true, cond, List, [], ℕ, eqb, ltb, arith, le-ltb, lt-ltb, eqb-true, ltb-false, eqb-false, ltb-true}
use Rattle.base_lists.proofs.Tests.{not-true-false}
use Rattle.graph.specs.Circuit.{graph_of, circuit_graph}
use Rattle.graph.specs.Graph.{Graph, Radius}
use Rattle.graph.specs.Search.{connected, radius}
use Rattle.graph.proofs.Distance.{radius-is}
use Rattle.graph.proofs.Walks.{radius-unique}
use Rattle.file_format.specs.declared.Refusal.{Refusal}
use Rattle.file_format.specs.declared.Role.{Role}
use Rattle.file_format.specs.declared.Role.TheVariants.{Pattern}
use Rattle.file_format.specs.Circuit.{circuit_of}
use Rattle.file_format.specs.Layout.{CircuitFile, nodes_of, links_of, starts_of, ends_of}
use Rattle.file_format.specs.Links.{links_below}
use Rattle.file_format.specs.Refusals.{Condition, Verdict, accept, refuse, first, widest, too_wide, link_conditions, file_conditions, asks_connected, eleven, without}
use Rattle.file_format.specs.Role.{in_range}
use Rattle.file_format.proofs.Fields.{length-labels}
use Rattle.file_format.proofs.Refusals.{accept-not-refuse, first-accept, first-refuse, first_holds, range-orders}
use Rattle.file_format.proofs.Accepted.{links-within}

-- ---- a list of conditions without those of a number

never-kept :
    (k : ℕ) (y x : Refusal) (v : Verdict) (h : Bool) → (y.number ≡ k → ⊥) → cond h (refuse y) v ≡ refuse x → (v ≡ refuse x → x.number ≡ k → ⊥) →
    x.number ≡ k → ⊥
never-kept k y x v true f e rest n = f (let m : y.number ≡ x.number = cc in m ∙ n)
never-kept k y x v false f e rest n = rest e n

-- it never refuses by the number
pub without-never : (k : ℕ) (cs : List Condition) (x : Refusal) → first (without k cs) ≡ refuse x → x.number ≡ k → ⊥
unfolding first without
without-never k [] x e = absurd (accept-not-refuse e)
without-never k (c ∷ cs) x e = go (eqb c.number k) refl e (without-never k cs x)
  where
    go : (b : Bool) → eqb c.number k ≡ b → first (cond b (without k cs) (c ∷ without k cs)) ≡ refuse x →
        (first (without k cs) ≡ refuse x → x.number ≡ k → ⊥) → x.number ≡ k → ⊥
    go true q f rest = rest f
    go false q f rest = never-kept k (record { number = c.number; file = c.file }) x _ c.holds (eqb-false _ _ q) f rest

-- a condition that is left, and one that is not
same_kept : (y : Refusal) (v v' : Verdict) (h : Bool) → (h ≡ false → v ≡ v') → cond h (refuse y) v ≡ cond h (refuse y) v'
same_kept y v v' true f = refl
same_kept y v v' false f = f refl

same-gone :
    (k : ℕ) (y : Refusal) (v v' : Verdict) (h : Bool) → y.number ≡ k → ((x : Refusal) → cond h (refuse y) v' ≡ refuse x → x.number ≡ k → ⊥) →
    (h ≡ false → v ≡ v') → v ≡ cond h (refuse y) v'
same-gone k y v v' true q f rest = absurd (f y refl q)
same-gone k y v v' false q f rest = rest refl

later : (k : ℕ) (y : Refusal) (v : Verdict) (h : Bool) → h ≡ false → ((x : Refusal) → cond h (refuse y) v ≡ refuse x → x.number ≡ k → ⊥) → (x : Refusal) → v ≡ refuse x → x.number ≡ k → ⊥
later k y v true e f = absurd (let z : ◌≡◌ {A = ℕ} 0 1 = cc in omega arith)
later k y v false e f = f

-- A verdict that is not by the number is that of the list without it.
pub without-same : (k : ℕ) (cs : List Condition) → ((x : Refusal) → first cs ≡ refuse x → x.number ≡ k → ⊥) → first (without k cs) ≡ first cs
unfolding first without
without-same k [] f = refl
without-same k (c ∷ cs) f =
    go (eqb c.number k) refl (λ e. without-same k cs (later k (record { number = c.number; file = c.file }) (first cs) c.holds e f))
  where
    own : Refusal
    own = record { number = c.number; file = c.file }

    go : (b : Bool) → eqb c.number k ≡ b → (c.holds ≡ false → first (without k cs) ≡ first cs) →
        first (cond b (without k cs) (c ∷ without k cs)) ≡ cond c.holds (refuse own) (first cs)
    go true q rest = same-gone k own _ _ c.holds (eqb-true _ _ q) f rest
    go false q rest = same_kept own _ _ c.holds rest

-- list by list
without-append : (k : ℕ) (cs ds : List Condition) → without k (cs ++ ds) ≡ without k cs ++ without k ds
unfolding without
without-append k [] ds = refl
without-append k (c ∷ cs) ds = go (eqb c.number k) (without-append k cs ds)
  where
    go : (b : Bool) → without k (cs ++ ds) ≡ without k cs ++ without k ds →
        cond b (without k (cs ++ ds)) (c ∷ without k (cs ++ ds)) ≡ cond b (without k cs) (c ∷ without k cs) ++ without k ds
    go true e = e
    go false e = ap (λ (l : List Condition). c ∷ l) e

same_first : (cs cs' ds ds' : List Condition) → first cs ≡ first cs' → first ds ≡ first ds' → first (cs ++ ds) ≡ first (cs' ++ ds')
same_first cs cs' ds ds' p q = go (first cs) refl
  where
    go : (v : Verdict) → first cs ≡ v → first (cs ++ ds) ≡ first (cs' ++ ds')
    go accept e = first-accept cs ds e ∙ q ∙ sym (first-accept cs' ds' (sym p ∙ e))
    go (refuse x) e = first-refuse cs ds x e ∙ sym (first-refuse cs' ds' x (sym p ∙ e))

pub without-both : (k : ℕ) (cs ds : List Condition) → first (without k cs) ≡ first cs → first (without k ds) ≡ first ds → first (without k (cs ++ ds)) ≡ first (cs ++ ds)
without-both k cs ds p q = ap first (without-append k cs ds) ∙ same_first (without k cs) cs (without k ds) ds p q

-- ---- 11 as the last of a list of conditions, after those that leave only what has a radius

module _ (cs : List Condition) (n : ℕ) (starts ends : List ℕ) where
  abbrev before : List Condition
  before = without 11 cs

  abbrev width : ℕ
  width = radius n starts ends

  abbrev Wide : Type 0
  Wide = (first before ≡ accept) × ((r : ℕ) × Radius (graph_of n starts ends) r × (widest < r))

  abbrev Narrow : Type 0
  Narrow = (first before ≡ accept) × ((r : ℕ) → Radius (graph_of n starts ends) r → r ≤ widest)

  module _ (split : cs ≡ before ++ (too_wide Pattern n starts ends ∷ []))
      (measured : first before ≡ accept → Radius (graph_of n starts ends) width) where
    -- where the others leave it, the limit decides,
    limit : first before ≡ accept → first cs ≡ cond (ltb widest width) (refuse eleven) accept
    unfolding first asks_connected
    limit e = ap first split ∙ first-accept before (too_wide Pattern n starts ends ∷ []) e

    -- and where they do not, they refuse by another number
    other : (x : Refusal) → first before ≡ refuse x → (first cs ≡ refuse x) × (x.number ≡ 11 → ⊥)
    other x e = (ap first split ∙ first-refuse before (too_wide Pattern n starts ends ∷ []) x e, without-never 11 cs x e)

    to-wide : first cs ≡ refuse eleven → (v : Verdict) → first before ≡ v → Wide
    to-wide e accept h = (h, (width, measured h, above (ltb widest width) refl (sym (limit h) ∙ e)))
      where
        above : (b : Bool) → ltb widest width ≡ b → cond b (refuse eleven) accept ≡ refuse eleven → widest < width
        above true q _ = ltb-true _ _ q
        above false q f = absurd (accept-not-refuse f)
    to-wide e (refuse x) h = let (f, apart) = other x h in absurd (apart (let same : refuse x ≡ refuse eleven = sym f ∙ e in cc))

    to_narrow : first cs ≡ accept → (v : Verdict) → first before ≡ v → Narrow
    to_narrow e accept h = (h, λ r is. subst (λ (k : ℕ). k ≤ widest) (radius-unique (measured h) is) (below (ltb widest width) refl (sym (limit h) ∙ e)))
      where
        below : (b : Bool) → ltb widest width ≡ b → cond b (refuse eleven) accept ≡ accept → width ≤ widest
        below true q f = absurd (accept-not-refuse (sym f))
        below false q _ = ltb-false _ _ q
    to_narrow e (refuse x) h = let (f, _) = other x h in absurd (accept-not-refuse (sym e ∙ f))

    -- A pattern is refused with 11 exactly when none of the others holds and its radius is above 12,
    pub wide-iff : (first cs ≡ refuse eleven) ↔ Wide
    wide-iff = (
      λ e. to-wide e (first before) refl,
      λ (h, (r, is, l)). limit h ∙ rw (lt-ltb widest width (subst (λ (k : ℕ). widest < k) (radius-unique is (measured h)) l)),
    )

    -- and accepted exactly when none of them holds and its radius is at most 12.
    pub narrow-iff : (first cs ≡ accept) ↔ Narrow
    narrow-iff = (
      λ e. to_narrow e (first before) refl,
      λ (h, f). limit h ∙ rw (le-ltb widest width (f width (measured h))),
    )

-- ---- so of a file, after 1 to 6

split-file : (r : Role) (file : CircuitFile) → file_conditions r file ≡ without 11 (file_conditions r file) ++ (too_wide r (nodes_of file) (starts_of file) (ends_of file) ∷ [])
unfolding file_conditions link_conditions without
split-file r file = refl

module _ (file : CircuitFile) where
  abbrev G : Graph
  G = graph_of (nodes_of file) (starts_of file) (ends_of file)

  file-measured : first (without 11 (file_conditions Pattern file)) ≡ accept → Radius G (radius (nodes_of file) (starts_of file) (ends_of file))
  unfolding file_conditions link_conditions without asks_connected
  file-measured e =
      let n = nodes_of file in
      let h1 = first_holds _ _ e in
      let h2 = first_holds _ _ h1.1 in
      let h3 = first_holds _ _ h2.1 in
      let h4 = first_holds _ _ h3.1 in
      let h5 = first_holds _ _ h4.1 in
      let h6 = first_holds _ _ h5.1 in
      let some = (range-orders Pattern n (links_of file) (not-true-false (in_range Pattern n (links_of file)) h2.0)).0 in
      let below = not-true-false (links_below n (starts_of file) (ends_of file)) h4.0 in
      radius-is (links-within n (starts_of file) (ends_of file) below) some (not-true-false (connected n (starts_of file) (ends_of file)) h6.0)

  pub wide-file :
      (first (file_conditions Pattern file) ≡ refuse eleven) ↔
      ((first (without 11 (file_conditions Pattern file)) ≡ accept) × ((r : ℕ) × Radius (circuit_graph (circuit_of file)) r × (widest < r)))
  unfolding circuit_graph
  wide-file = rw length-labels (wide-iff (file_conditions Pattern file) (nodes_of file) (starts_of file) (ends_of file) (split-file Pattern file) file-measured)

  pub narrow-file :
      (first (file_conditions Pattern file) ≡ accept) ↔
      ((first (without 11 (file_conditions Pattern file)) ≡ accept) × ((r : ℕ) → Radius (circuit_graph (circuit_of file)) r → r ≤ widest))
  unfolding circuit_graph
  narrow-file = rw length-labels (narrow-iff (file_conditions Pattern file) (nodes_of file) (starts_of file) (ends_of file) (split-file Pattern file) file-measured)

  -- For an accepted pattern the verdict is that of before the limit,
  pub accepted-before : first (file_conditions Pattern file) ≡ accept → first (without 11 (file_conditions Pattern file)) ≡ first (file_conditions Pattern file)
  accepted-before e = (narrow-file.0 e).0 ∙ sym e

-- and for a file in a role that need not be connected it always is.
pub unasked-before : (r : Role) (file : CircuitFile) → asks_connected r ≡ false → first (without 11 (file_conditions r file)) ≡ first (file_conditions r file)
unfolding first
unasked-before r file e = sym (ap first (split-file r file) ∙ go (without 11 (file_conditions r file)) (first (without 11 (file_conditions r file))) refl)
  where
    wide : Condition
    wide = too_wide r (nodes_of file) (starts_of file) (ends_of file)

    go : (cs : List Condition) (v : Verdict) → first cs ≡ v → first (cs ++ (wide ∷ [])) ≡ first cs
    go cs accept h = first-accept cs (wide ∷ []) h ∙ rw e (sym h)
    go cs (refuse x) h = first-refuse cs (wide ∷ []) x h ∙ sym h
