-- What a list of visits makes of the entries and of the frontier of a breadth-first search. Assumes nothing.
use Rattle.std.specs.Prelude.{◌≡◌, ◌↔◌, ◌⊎◌, ◌||◌, ◌∷◌, ◌++◌, ◌≤◌, ◌<◌}
use Rattle.base_lists.specs.Kit.{◌∙◌, sym, ap, refl, subst, ⊎_elim, inl, inr, Bool, false, true, cond, or-false, or-true, List, [], ℕ, le_refl, T, eqb, eqb→eq, eqb_refl, length, get_or, drop, set, length-append, get_or-eq_default, drop_of_length-le, get_or-set_other, get_or-set_same, drop-length, drop-append-le, arith, eq-eqb, ne_eqb, eqb-true, eqb-false}
use Rattle.base_lists.specs.List.{any, Below}
use Rattle.base_lists.proofs.Tests.{either_left, either-right, either-cases, any_at, at-any, true-T, lt-or-le}
use Rattle.graph.specs.Search.{far}
use Rattle.base_lists.specs.List.{Occurs}
use Rattle.graph.specs.Bfs.{SearchState, visit, scan, level}
use Rattle.graph.proofs.BfsSteps.{visit-cases, scan-append}

-- ---- membership, as a test

-- w is an element of a list
pub elem : ℕ → List ℕ → Bool
elem w xs = any (λ x. eqb x w) xs

pub elem-nil : (w : ℕ) → elem w [] ≡ false
unfolding elem any
elem-nil w = refl

elem-append : (w : ℕ) (xs ys : List ℕ) → elem w (xs ++ ys) ≡ elem w xs || elem w ys
unfolding elem any
elem-append w [] ys = refl
elem-append w (x ∷ xs) ys = go (eqb x w) _ (elem w xs) (elem w ys) (elem-append w xs ys)
  where
    go : (b p q r : Bool) → p ≡ q || r → b || p ≡ (b || q) || r
    go true p q r e = refl
    go false p q r e = e

pub elem-snoc : (w : ℕ) (xs : List ℕ) (v : ℕ) → elem w (xs ++ (v ∷ [])) ≡ elem w xs || eqb v w
unfolding elem any
elem-snoc w xs v = elem-append w xs (v ∷ []) ∙ ap (λ (b : Bool). elem w xs || b) (or-false (eqb v w))

pub elem-occurs : (w : ℕ) (xs : List ℕ) → T (elem w xs) → Occurs xs w
unfolding elem
elem-occurs w xs t = let o = any_at (λ x. eqb x w) xs t in (o.0, o.1, eqb→eq _ _ o.2)

pub occurs-elem : (w : ℕ) (xs : List ℕ) → Occurs xs w → T (elem w xs)
unfolding elem
occurs-elem w xs o = at-any (λ x. eqb x w) xs o.0 o.1 (true-T (eq-eqb _ _ o.2))

-- what occurs in one list after another occurs in the one or in the other
pub occurs-append : (w : ℕ) (xs ys : List ℕ) → Occurs (xs ++ ys) w ↔ (Occurs xs w ⊎ Occurs ys w)
occurs-append w xs ys = (
  λ o. ⊎_elim (λ t. inl (elem-occurs w xs t)) (λ t. inr (elem-occurs w ys t)) (either-cases (elem w xs) (elem w ys) (subst T (elem-append w xs ys) (occurs-elem w (xs ++ ys) o))),
  λ o. elem-occurs w (xs ++ ys) (subst T (sym (elem-append w xs ys)) (⊎_elim (λ p. either_left (elem w xs) (elem w ys) (occurs-elem w xs p)) (λ p. either-right (elem w xs) (elem w ys) (occurs-elem w ys p)) o)),
)

pub below-elem : (n w : ℕ) (xs : List ℕ) → Below n xs → T (elem w xs) → w < n
unfolding Below
below-elem n w xs b t = let o = elem-occurs w xs t in rw o.2 at (b o.0 o.1)

-- ---- a level visits the neighbours of its nodes, one after another

-- the neighbours of the nodes of a list
pub targets : (ℕ → List ℕ) → List ℕ → List ℕ
targets adj [] = []
targets adj (v ∷ vs) = adj v ++ targets adj vs

pub level-scan : (adj : ℕ → List ℕ) (d : ℕ) (s : SearchState) (vs : List ℕ) → level adj d s vs ≡ scan d s (targets adj vs)
unfolding level scan targets
level-scan adj d s [] = refl
level-scan adj d s (v ∷ vs) = level-scan adj d (scan d s (adj v)) vs ∙ sym (scan-append d s (adj v) (targets adj vs))

pub targets-from : (adj : ℕ → List ℕ) (w : ℕ) (vs : List ℕ) → T (elem w (targets adj vs)) → (f : ℕ) × T (elem f vs) × T (elem w (adj f))
unfolding targets elem any
targets-from adj w [] t = absurd t
targets-from adj w (v ∷ vs) t =
    go (either-cases (elem w (adj v)) (elem w (targets adj vs)) (subst T (elem-append w (adj v) (targets adj vs)) t)) (targets-from adj w vs)
  where
    go : T (elem w (adj v)) ⊎ T (elem w (targets adj vs)) → (T (elem w (targets adj vs)) → (f : ℕ) × T (elem f vs) × T (elem w (adj f)))
        → (f : ℕ) × T (elem f (v ∷ vs)) × T (elem w (adj f))
    go (inl h) r = (v, either_left (eqb v v) (elem v vs) (eqb_refl v), h)
    go (inr h) r = let o = r h in (o.0, either-right (eqb v o.0) (elem o.0 vs) o.1, o.2)

pub to-targets : (adj : ℕ → List ℕ) (f w : ℕ) (vs : List ℕ) → T (elem f vs) → T (elem w (adj f)) → T (elem w (targets adj vs))
unfolding targets elem any
to-targets adj f w [] t h = t
to-targets adj f w (v ∷ vs) t h =
    subst T (sym (elem-append w (adj v) (targets adj vs))) (go (either-cases (eqb v f) (elem f vs) t) (λ k. to-targets adj f w vs k h))
  where
    go : T (eqb v f) ⊎ T (elem f vs) → (T (elem f vs) → T (elem w (targets adj vs))) → T (elem w (adj v) || elem w (targets adj vs))
    go (inl e) r = either_left (elem w (adj v)) _ (subst (λ (u : ℕ). T (elem w (adj u))) (sym (eqb→eq v f e)) h)
    go (inr k) r = either-right (elem w (adj v)) _ (r k)

-- ---- what visits at distance d make of an entry

-- the later entry of a node whose entry is x, where it is among those visited and where it is not
pub after : ℕ → ℕ → Bool → ℕ
after d x true = cond (eqb x far) d x
after d x false = x

after-twice : (d x : ℕ) (a b : Bool) → after d (after d x a) b ≡ after d x (a || b)
unfolding after
after-twice d x false b = refl
after-twice d x true false = refl
after-twice d x true true = go (eqb x far) refl
  where
    same : (b : Bool) → cond b d d ≡ d
    same true = refl
    same false = refl

    go : (b : Bool) → eqb x far ≡ b → cond (eqb (cond b d x) far) d (cond b d x) ≡ cond b d x
    go true e = same (eqb d far)
    go false e = rw e

-- what holds of d, for a visited node that was not reached, and of the earlier entry holds of the later one
pub after-cases : (P : ℕ → Type 0) (d x : ℕ) (b : Bool) → (x ≡ far → b ≡ true → P d) → P x → P (after d x b)
unfolding after
after-cases P d x false new old = old
after-cases P d x true new old = go (eqb x far) refl
  where
    go : (t : Bool) → eqb x far ≡ t → P (cond t d x)
    go true e = new (eqb-true x far e) refl
    go false e = old

-- a node that was not reached and is visited has entry d, and a node that was reached keeps its entry
pub after-new : (d x : ℕ) (b : Bool) → x ≡ far → b ≡ true → after d x b ≡ d
unfolding after
after-new d x b e t = rw (t, e)

pub after-old : (d x : ℕ) (b : Bool) → (x ≡ far → ⊥) → after d x b ≡ x
after-old d x b e = after-cases (λ (y : ℕ). y ≡ x) d x b (λ h _. absurd (e h)) refl

-- only a node has an entry `far`
far-inside : (xs : List ℕ) (v : ℕ) → get_or xs v 0 ≡ far → v < length xs
far-inside xs v e = ⊎_elim (λ h. h) (λ h. let z = get_or-eq_default xs 0 h in omega arith) (lt-or-le v (length xs))

visit-dist : (d : ℕ) (s : SearchState) (v w : ℕ) → get_or (visit d s v).dist w 0 ≡ after d (get_or s.dist w 0) (eqb v w)
unfolding after
visit-dist d s v w = visit-cases (λ (t : SearchState). get_or t.dist w 0 ≡ after d (get_or s.dist w 0) (eqb v w)) d s v (λ e. new e (eqb v w) refl) (λ e. old e (eqb v w) refl)
  where
    new : get_or s.dist v 0 ≡ far → (b : Bool) → eqb v w ≡ b → get_or (set s.dist v d) w 0 ≡ after d (get_or s.dist w 0) b
    new e true q =
        let p = eqb-true v w q in
        rw (← p, eq-eqb (get_or s.dist v 0) far e) (get_or-set_same s.dist v d 0 (far-inside s.dist v e))
    new e false q = get_or-set_other s.dist v w d 0 (λ p. eqb-false v w q (sym p))

    old : (get_or s.dist v 0 ≡ far → ⊥) → (b : Bool) → eqb v w ≡ b → get_or s.dist w 0 ≡ after d (get_or s.dist w 0) b
    old e true q =
        let p = eqb-true v w q in
        rw (← p, ne_eqb (get_or s.dist v 0) far e)
    old e false q = refl

pub scan-dist : (d : ℕ) (s : SearchState) (vs : List ℕ) (w : ℕ) → get_or (scan d s vs).dist w 0 ≡ after d (get_or s.dist w 0) (elem w vs)
unfolding scan after elem any
scan-dist d s [] w = refl
scan-dist d s (v ∷ vs) w =
    scan-dist d (visit d s v) vs w
    ∙ ap (λ (x : ℕ). after d x (elem w vs)) (visit-dist d s v w)
    ∙ after-twice d (get_or s.dist w 0) (eqb v w) (elem w vs)

-- ---- the frontier

-- past the first m nodes reached stand those at distance d
pub record Frontier (n m d : ℕ) (s : SearchState) : Type 0 where
  pub within : m ≤ length s.reached
  pub exact : (w : ℕ) → w < n → elem w (drop m s.reached) ≡ eqb (get_or s.dist w 0) d

-- no node at distance d is reached yet
pub frontier-none : (n d : ℕ) (s : SearchState) → ((w : ℕ) → w < n → get_or s.dist w 0 ≡ d → ⊥) → Frontier n (length s.reached) d s
frontier-none n d s f = record { within = le_refl _; exact = λ w h. ap (elem w) (drop-length s.reached) ∙ elem-nil w ∙ sym (ne_eqb (get_or s.dist w 0) d (f w h)) }

-- where the frontier is empty, no node is at distance d
pub frontier-empty : (n m d : ℕ) (s : SearchState) → Frontier n m d s → length s.reached ≤ m → (w : ℕ) → w < n → get_or s.dist w 0 ≡ d → ⊥
frontier-empty n m d s f l w h = eqb-false (get_or s.dist w 0) d (sym (f.exact w h) ∙ ap (elem w) (drop_of_length-le s.reached l) ∙ elem-nil w)

frontier-visit : (n m d : ℕ) (s : SearchState) (v : ℕ) → Frontier n m d s → Frontier n m d (visit d s v)
frontier-visit n m d s v f = visit-cases (Frontier n m d) d s v (λ e. record { within = longer; exact = λ w h. joined w ∙ new e w h (eqb v w) refl }) (λ _. f)
  where
    longer : m ≤ length (s.reached ++ (v ∷ []))
    longer = let h = f.within in simp length-append (omega arith)

    joined : (w : ℕ) → elem w (drop m (s.reached ++ (v ∷ []))) ≡ elem w (drop m s.reached) || eqb v w
    joined w = ap (elem w) (drop-append-le m s.reached (v ∷ []) f.within) ∙ elem-snoc w (drop m s.reached) v

    new : get_or s.dist v 0 ≡ far → (w : ℕ) → w < n → (b : Bool) → eqb v w ≡ b → elem w (drop m s.reached) || b ≡ eqb (get_or (set s.dist v d) w 0) d
    new e w h true q =
        or-true (elem w (drop m s.reached))
        ∙ sym (eq-eqb _ d (ap (λ (i : ℕ). get_or (set s.dist v d) i 0) (sym (eqb-true v w q)) ∙ get_or-set_same s.dist v d 0 (far-inside s.dist v e)))
    new e w h false q =
        or-false (elem w (drop m s.reached))
        ∙ f.exact w h
        ∙ ap (λ (x : ℕ). eqb x d) (sym (get_or-set_other s.dist v w d 0 (λ p. eqb-false v w q (sym p))))

pub frontier-scan : (n m d : ℕ) (s : SearchState) (vs : List ℕ) → Frontier n m d s → Frontier n m d (scan d s vs)
unfolding scan
frontier-scan n m d s [] f = f
frontier-scan n m d s (v ∷ vs) f = frontier-scan n m d (visit d s v) vs (frontier-visit n m d s v f)
