-- Where starts do not fall, a node's links are a stretch of the file's order, the one that its two offsets bound; and the forward link table has
-- the ends in the file's order. Assumes nothing.
use Rattle.std.specs.Prelude.{◌≡◌, ◌↔◌, ◌∷◌, ◌≤◌, ◌<◌, ◌+◌, ◌-◌}
use Rattle.base_lists.specs.Kit.{◌∙◌, sym, ap, refl, ⊎_elim, Bool, false, true, cond, List, [], ℕ, suc, zero, suc-le-suc, not-suc-le-zero, le_of_suc-le-suc, zero-lt-suc, le_of_eq, suc_inj, eqb, ltb, eqb→eq, eqb_refl, length, get_or, drop, get_or-take, get_or-drop, arith, le-ltb, lt-ltb, ltb-false, ltb-true}
use Rattle.base_lists.specs.List.{Below}
use Rattle.base_lists.proofs.Tests.{true-T, false-T}
use Rattle.graph.specs.Neighbours.{select, below, stretch}
use Rattle.graph.specs.Net.{forward_offsets, forward_targets, driven, NetOf}
use Rattle.graph.specs.Rising.{LinksRise}
use Rattle.graph.proofs.Lookup.{stretch-part}
use Rattle.graph.proofs.Net.{stretch-sound}

-- no entry is below an earlier one
abbrev pub Sorted : List ℕ → Type 0
Sorted xs = (i j : ℕ) → i < j → j < length xs → get_or xs i 0 ≤ get_or xs j 0

-- a file's starts do not fall
pub rise-sorted : (starts ends : List ℕ) → LinksRise starts ends → Sorted starts
unfolding LinksRise
rise-sorted starts ends rise i j h l = ⊎_elim (λ p. omega arith) (λ p. omega arith) (rise i j h l)

later : (x : ℕ) (xs : List ℕ) → Sorted (x ∷ xs) → Sorted xs
later x xs s i j h l = s (suc i) (suc j) (suc-le-suc h) (suc-le-suc l)

first : (x : ℕ) (xs : List ℕ) → Sorted (x ∷ xs) → (i : ℕ) → i < length xs → x ≤ get_or xs i 0
first x xs s i h = s zero (suc i) (zero-lt-suc i) (suc-le-suc h)

-- none is below a number that none is below
below_none : (xs : List ℕ) (v : ℕ) → ((i : ℕ) → i < length xs → v ≤ get_or xs i 0) → below xs v ≡ 0
unfolding below
below_none [] v h = refl
below_none (x ∷ xs) v h = rw (le-ltb x v (h zero (zero-lt-suc _))) (below_none xs v (λ i l. h (suc i) (suc-le-suc l)))

-- the entries below a number stand first
pub sorted-below : (xs : List ℕ) → Sorted xs → (v i : ℕ) → i < length xs → (i < below xs v) ↔ (get_or xs i 0 < v)
unfolding below
sorted-below [] s v i h = absurd (not-suc-le-zero h)
sorted-below (x ∷ xs) s v i h = go (ltb x v) refl i h (sorted-below xs (later x xs s) v)
  where
    go : (b : Bool) → ltb x v ≡ b → (i : ℕ) → i < length (x ∷ xs) → ((i : ℕ) → i < length xs → (i < below xs v) ↔ (get_or xs i 0 < v))
        → (i < cond b (suc (below xs v)) (below xs v)) ↔ (get_or (x ∷ xs) i 0 < v)
    go true e zero h r = (λ _. ltb-true x v e, λ _. zero-lt-suc _)
    go true e (suc i) h r = let same = r i (le_of_suc-le-suc h) in (λ l. same.0 (le_of_suc-le-suc l), λ l. suc-le-suc (same.1 l))
    go false e i h r =
        let past : v ≤ x = ltb-false x v e in
        let none : below xs v ≡ 0 = below_none xs v (λ j l. let q = first x xs s j l in omega arith) in
        (λ l. absurd (not-suc-le-zero (rw none at l)), λ l. absurd (outside i h l past))
      where
        outside : (i : ℕ) → i < length (x ∷ xs) → get_or (x ∷ xs) i 0 < v → v ≤ x → ⊥
        outside zero h l past = omega arith
        outside (suc i) h l past = let q = first x xs s i (le_of_suc-le-suc h) in omega arith

-- so the entries that equal a number are a stretch
pub sorted-at : (xs : List ℕ) → Sorted xs → (v i : ℕ) → i < length xs → ((below xs v ≤ i) × (i < below xs (suc v))) ↔ (get_or xs i 0 ≡ v)
sorted-at xs s v i h =
    let low = sorted-below xs s v i h in
    let high = sorted-below xs s (suc v) i h in (
      λ (a, b). let m = high.0 b in go (ltb (get_or xs i 0) v) refl a m low,
      λ e. (from (ltb i (below xs v)) refl e low, high.1 (omega arith)),
    )
  where
    go : (b : Bool) → ltb (get_or xs i 0) v ≡ b → below xs v ≤ i → get_or xs i 0 < suc v → ((i < below xs v) ↔ (get_or xs i 0 < v)) → get_or xs i 0 ≡ v
    go true e a m low = absurd (let l : i < below xs v = low.1 (ltb-true _ _ e) in omega arith)
    go false e a m low = let l : v ≤ get_or xs i 0 = ltb-false _ _ e in omega arith

    from : (b : Bool) → ltb i (below xs v) ≡ b → get_or xs i 0 ≡ v → ((i < below xs v) ↔ (get_or xs i 0 < v)) → below xs v ≤ i
    from true q e low = absurd (let l : get_or xs i 0 < v = low.0 (ltb-true _ _ q) in omega arith)
    from false q e low = ltb-false _ _ q

-- and what stands beside them does too
pub sorted-select : (starts ends : List ℕ) → Sorted starts → length starts ≡ length ends → (v i : ℕ) → i < length starts → get_or starts i 0 ≡ v
    → get_or (select starts ends v) (i - below starts v) 0 ≡ get_or ends i 0
unfolding select below
sorted-select [] ends s e v i h q = absurd (not-suc-le-zero h)
sorted-select (x ∷ xs) [] s e v i h q = absurd (let z = e in omega arith)
sorted-select (x ∷ xs) (y ∷ ys) s e v i h q = go (eqb x v) refl i h q (sorted-select xs ys (later x xs s) (suc_inj e) v)
  where
    -- before a stretch that begins here
    before : x ≡ v → below xs v ≡ 0
    before p = below_none xs v (λ j l. let q : x ≤ get_or xs j 0 = first x xs s j l in omega arith)

    go : (b : Bool) → eqb x v ≡ b → (i : ℕ) → i < length (x ∷ xs) → get_or (x ∷ xs) i 0 ≡ v
        → ((i : ℕ) → i < length xs → get_or xs i 0 ≡ v → get_or (select xs ys v) (i - below xs v) 0 ≡ get_or ys i 0)
        → get_or (cond b (y ∷ select xs ys v) (select xs ys v)) (i - cond (ltb x v) (suc (below xs v)) (below xs v)) 0 ≡ get_or (y ∷ ys) i 0
    go true p zero h q r = rw (le-ltb x v (le_of_eq (sym q)), before q)
    go true p (suc i) h q r =
        let same : x ≡ v = eqb→eq x v (true-T p) in
        let whole : suc i - 0 ≡ suc (i - below xs v) = rw (before same) (omega arith) in
        rw (le-ltb x v (le_of_eq (sym same)), before same, whole) (r i (le_of_suc-le-suc h) q)
    go false p zero h q r = absurd (false-T p (rw q (eqb_refl v)))
    go false p (suc i) h q r =
        let low : x ≤ get_or xs i 0 = first x xs s i (le_of_suc-le-suc h) in
        let other : x ≡ v → ⊥ = λ e. false-T p (rw e (eqb_refl v)) in
        let less : suc i - suc (below xs v) ≡ i - below xs v = omega arith in
        rw (lt-ltb x v (omega arith), less) (r i (le_of_suc-le-suc h) q)

-- in neighbour tables of such links the forward link table has the ends in their order
pub link_at : {n : ℕ} {starts ends offsets links : List ℕ} → NetOf n starts ends offsets links → Sorted starts → length starts ≡ length ends → Below n starts
    → (i : ℕ) → i < length starts → get_or (forward_targets links) i 0 ≡ get_or ends i 0
unfolding driven Below
link_at {n} {starts} {ends} {offsets} {links} t s e b i h =
    let v = get_or starts i 0 in
    let l : v < n = b i h in
    let fo = forward_offsets offsets in
    let fl = forward_targets links in
    let (low, high) = (sorted-at starts s v i h).1 refl in
    let from : get_or fo v 0 ≡ below starts v = t.begins v (omega arith) in
    let to : get_or fo (suc v) 0 ≡ below starts (suc v) = t.begins (suc v) l in
    let part = stretch-part fo fl v (stretch-sound t.forward v l) in
    let back : get_or fo v 0 + (i - below starts v) ≡ i = omega arith in
    let here : get_or (stretch fo fl v) (i - below starts v) 0 ≡ get_or fl i 0 =
    ap (λ (xs : List ℕ). get_or xs (i - below starts v) 0) part
    ∙ get_or-take (get_or fo (suc v) 0 - get_or fo v 0) (drop (get_or fo v 0) fl) (i - below starts v) 0 (omega arith)
    ∙ get_or-drop (get_or fo v 0) fl (i - below starts v) 0
    ∙ ap (λ (k : ℕ). get_or fl k 0) back in
    sym here ∙ ap (λ (xs : List ℕ). get_or xs (i - below starts v) 0) (t.drives v l) ∙ sorted-select starts ends s e v i h refl
