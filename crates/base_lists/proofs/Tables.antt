-- Laws of lists made from a rule. Assumes nothing.
use Rattle.std.specs.Prelude.{◌≡◌, ◌∷◌, ◌++◌, ◌≤◌, ◌<◌, ◌+◌}
use Rattle.base_lists.specs.Kit.{◌∙◌, sym, ap, refl, List, [], append-nil, ℕ, suc, zero, not-suc-le-zero, le_of_suc-le-suc, le_of_eq, zero-add, suc-add, add-one, length, get_or, drop, set, drop_of_length-le, drop-cons, ext_get_or, set_at, append_snoc, arith, get_or-drop, get_or-append-add, drop-length, ap₂, subst, Bool, false, true, eqb, length-set, get_or-set_other, get_or-set_same, eqb-true, eqb-false, add-zero, add-suc, sets, replicate}
use Rattle.base_lists.specs.List.{tabulate}

pub length-tabulate : (n : ℕ) (f : ℕ → ℕ) → length (tabulate n f) ≡ n
unfolding tabulate
length-tabulate zero f = refl
length-tabulate (suc n) f = ap suc (length-tabulate n (λ i. f (suc i)))

pub get_d_tabulate : (n : ℕ) (f : ℕ → ℕ) (i d : ℕ) → i < n → get_or (tabulate n f) i d ≡ f i
unfolding tabulate
get_d_tabulate zero f i d h = absurd (not-suc-le-zero h)
get_d_tabulate (suc n) f zero d h = refl
get_d_tabulate (suc n) f (suc i) d h = get_d_tabulate n (λ i. f (suc i)) i d (le_of_suc-le-suc h)

-- a list is the table of a rule when it has the length and each entry follows the rule
pub is-tabulate : (n : ℕ) (f : ℕ → ℕ) (xs : List ℕ) → length xs ≡ n → ((i : ℕ) → i < n → get_or xs i 0 ≡ f i) → xs ≡ tabulate n f
is-tabulate n f xs l e =
    ext_get_or 0 xs (tabulate n f) (l ∙ sym (length-tabulate n f))
    (λ i h. e i (rw l at h) ∙ sym (get_d_tabulate n f i 0 (rw l at h)))

-- two rules that agree below n make the same table
pub tabulate-same : (n : ℕ) (f g : ℕ → ℕ) → ((i : ℕ) → i < n → f i ≡ g i) → tabulate n f ≡ tabulate n g
tabulate-same n f g e = is-tabulate n g (tabulate n f) (length-tabulate n f) (λ i h. get_d_tabulate n f i 0 h ∙ e i h)

-- one entry more at the end
pub tabulate-suc : (n : ℕ) (f : ℕ → ℕ) → tabulate (suc n) f ≡ tabulate n f ++ (f n ∷ [])
unfolding tabulate
tabulate-suc zero f = refl
tabulate-suc (suc n) f = ap (λ (l : List ℕ). f zero ∷ l) (tabulate-suc n (λ i. f (suc i)))

-- a table in two parts
pub tabulate-append : (i j : ℕ) (f : ℕ → ℕ) → tabulate (i + j) f ≡ tabulate i f ++ tabulate j (λ k. f (i + k))
unfolding tabulate
tabulate-append zero j f =
    ap (λ (k : ℕ). tabulate k f) (zero-add j) ∙ tabulate-same j f (λ k. f (0 + k)) (λ k h. ap f (sym (zero-add k)))
tabulate-append (suc i) j f =
    ap (λ (k : ℕ). tabulate k f) (suc-add i j)
    ∙ ap (λ (l : List ℕ). f zero ∷ l) (tabulate-append i j (λ k. f (suc k)))
    ∙ ap (λ (l : List ℕ). f zero ∷ (tabulate i (λ k. f (suc k)) ++ l)) (tabulate-same j (λ k. f (suc (i + k))) (λ k. f (suc i + k)) (λ k h. ap f (sym (suc-add i k))))

-- ---- a loop that fills a list from the front, one store a turn: what is stored so far, and what is still there of the old list

-- one store more, after m entries
pub stored_more : (xs d : List ℕ) (m x : ℕ) → length xs ≡ m → m < length d → set (xs ++ drop m d) m x ≡ (xs ++ (x ∷ [])) ++ drop (m + 1) d
stored_more xs d m x e h =
    ap (λ (l : List ℕ). set (xs ++ l) m x) (drop-cons d m 0 h)
    ∙ set_at xs (get_or d m 0) (drop (suc m) d) x m e
    ∙ sym (append_snoc xs x (drop (suc m) d))
    ∙ sym (ap (λ (k : ℕ). (xs ++ (x ∷ [])) ++ drop k d) (add-one m))

-- the same where a rule gives the entries
pub filled_none : (f : ℕ → ℕ) (d : List ℕ) → d ≡ tabulate 0 f ++ drop 0 d
unfolding tabulate
filled_none f d = refl

pub filled_more : (n : ℕ) (f : ℕ → ℕ) (d : List ℕ) → n < length d → set (tabulate n f ++ drop n d) n (f n) ≡ tabulate (n + 1) f ++ drop (n + 1) d
filled_more n f d h =
    stored_more (tabulate n f) d n (f n) (length-tabulate n f) h
    ∙ ap (λ (l : List ℕ). l ++ drop (n + 1) d) (sym (tabulate-suc n f) ∙ sym (ap (λ (k : ℕ). tabulate k f) (add-one n)))

-- a list that fills another one whole leaves nothing of it
pub stored-whole : (xs old : List ℕ) (k : ℕ) → length old ≡ k → xs ++ drop k old ≡ xs
stored-whole xs old k e = ap (λ (l : List ℕ). xs ++ l) (drop_of_length-le old (le_of_eq e)) ∙ append-nil xs

-- ---- the next entry, and the end

-- the next entry is still as it was
pub filled-rest : (k : ℕ) (f : ℕ → ℕ) (xs old : List ℕ) → xs ≡ tabulate k f ++ drop k old → get_or xs k 0 ≡ get_or old k 0
filled-rest k f xs old e =
    let here : length (tabulate k f) + 0 ≡ k = omega (arith, length-tabulate k f) in
    let there : k + 0 ≡ k = omega arith in
    ap (λ (l : List ℕ). get_or l k 0) e ∙ ap (λ (j : ℕ). get_or (tabulate k f ++ drop k old) j 0) (sym here)
    ∙ get_or-append-add (tabulate k f) (drop k old) 0 0 ∙ get_or-drop k old 0 0 ∙ ap (λ (j : ℕ). get_or old j 0) there

-- past the last entry all are made
pub filled-all : (n : ℕ) (f : ℕ → ℕ) (d : List ℕ) → n ≡ length d → tabulate n f ++ drop n d ≡ tabulate (length d) f
filled-all n f d e = rw (e, drop-length) (append-nil _)

-- one entry more
pub filled_next :
    (f : ℕ → ℕ) (d xs : List ℕ) (n x : ℕ) → n < length d → xs ≡ tabulate n f ++ drop n d → x ≡ f n →
    set xs n x ≡ tabulate (n + 1) f ++ drop (n + 1) d
filled_next f d xs n x h e q = ap₂ (λ (ys : List ℕ) (y : ℕ). set ys n y) e q ∙ filled_more n f d h

-- ---- stores

-- a store makes a table one of another rule, which differs at one place
pub set-tabulate : (n : ℕ) (f g : ℕ → ℕ) (i x : ℕ) → x ≡ g i → ((j : ℕ) → j < n → (j ≡ i → ⊥) → f j ≡ g j) → i < n
    → set (tabulate n f) i x ≡ tabulate n g
set-tabulate n f g i x e same h =
    is-tabulate n g (set (tabulate n f) i x) (length-set (tabulate n f) i x ∙ length-tabulate n f) (λ j l. go j l (eqb j i) refl)
  where
    go : (j : ℕ) → j < n → (b : Bool) → eqb j i ≡ b → get_or (set (tabulate n f) i x) j 0 ≡ g j
    go j l true q =
        let p : j ≡ i = eqb-true j i q in
        subst (λ (k : ℕ). get_or (set (tabulate n f) i x) k 0 ≡ g k) (sym p) (get_or-set_same (tabulate n f) i x 0 (omega (arith, length-tabulate n f)) ∙ e)
    go j l false q = get_or-set_other (tabulate n f) i j x 0 (eqb-false j i q) ∙ get_d_tabulate n f j 0 l ∙ same j l (eqb-false j i q)

-- values stored behind others are stored with them
pub sets-append : (old : List ℕ) (at : ℕ) (xs ys : List ℕ) → sets (sets old at xs) (at + length xs) ys ≡ sets old at (xs ++ ys)
sets-append old at [] ys = rw add-zero
sets-append old at (x ∷ xs) ys = rw (add-suc, ← suc-add) (sets-append (set old at x) (suc at) xs ys)

-- ---- the table of one entry alone

pub replicate-rule : (n x : ℕ) → replicate n x ≡ tabulate n (λ v. x)
unfolding tabulate
replicate-rule zero x = refl
replicate-rule (suc n) x = ap (λ (l : List ℕ). x ∷ l) (replicate-rule n x)

pub replicate-tabulate : (n : ℕ) → replicate n 0 ≡ tabulate n (λ v. 0)
replicate-tabulate n = replicate-rule n 0

-- ---- entries before and among those stored

pub get_d_sets_before : (xs l : List ℕ) (i j : ℕ) → j < i → get_or (sets l i xs) j 0 ≡ get_or l j 0
get_d_sets_before [] l i j h = refl
get_d_sets_before (a ∷ xs) l i j h = get_d_sets_before xs (set l i a) (suc i) j (omega arith) ∙ get_or-set_other l i j a 0 (λ e. omega arith)

pub get_d_sets : (xs l : List ℕ) (i k : ℕ) → k < length xs → i + length xs ≤ length l → get_or (sets l i xs) (i + k) 0 ≡ get_or xs k 0
get_d_sets [] l i k h room = absurd (not-suc-le-zero h)
get_d_sets (a ∷ xs) l i zero h room =
    ap (λ (j : ℕ). get_or (sets (set l i a) (suc i) xs) j 0) (omega arith) ∙ get_d_sets_before xs (set l i a) (suc i) i (omega arith) ∙ get_or-set_same l i a 0 (omega arith)
get_d_sets (a ∷ xs) l i (suc k) h room =
    ap (λ (j : ℕ). get_or (sets (set l i a) (suc i) xs) j 0) (omega arith)
    ∙ get_d_sets xs (set l i a) (suc i) k (le_of_suc-le-suc h) (rw (length-set l i a) (omega arith))
