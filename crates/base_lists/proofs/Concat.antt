-- Laws of lists one after another: one more, none, the first apart, how long they are together. Assumes nothing.
use Rattle.std.specs.Prelude.{◌≡◌, ◌++◌, ◌+◌, ◌<◌, ◌⊎◌, ◌≤◌, ◌*◌}
use Rattle.base_lists.specs.Kit.{List, ℕ, add-one, refl, ap₂, [], suc, zero, arith, ◌∙◌, sym, ap, append-nil, append_assoc, add-zero, add-suc, inl, inr, le_refl, eq-or-lt_of_le, length, length-append, zero-le, suc-mul, not-suc-le-zero, le_of_suc-le-suc}
use Rattle.base_lists.specs.Below.{concat_below}

-- one more
pub concat_below-next : (n : ℕ) (g : ℕ → List ℕ) → concat_below n g ++ g n ≡ concat_below (n + 1) g
unfolding concat_below
concat_below-next n g = rw add-one

-- only empty ones
pub concat_below-none : (n : ℕ) (g : ℕ → List ℕ) → ((i : ℕ) → i < n → g i ≡ []) → concat_below n g ≡ []
unfolding concat_below
concat_below-none zero g h = refl
concat_below-none (suc n) g h = ap₂ (λ (xs ys : List ℕ). xs ++ ys) (concat_below-none n g (λ i l. h i (omega arith))) (h n (omega arith))

-- the first apart
pub concat_below-first : (n : ℕ) (g : ℕ → List ℕ) → concat_below (suc n) g ≡ g 0 ++ concat_below n (λ i. g (suc i))
unfolding concat_below
concat_below-first zero g = sym (append-nil (g 0))
concat_below-first (suc n) g =
    ap (λ (xs : List ℕ). xs ++ g (suc n)) (concat_below-first n g) ∙ append_assoc (g 0) (concat_below n (λ i. g (suc i))) (g (suc n))

-- the first m apart
pub concat_below-add : (m n : ℕ) (g : ℕ → List ℕ) → concat_below (m + n) g ≡ concat_below m g ++ concat_below n (λ i. g (m + i))
unfolding concat_below
concat_below-add m zero g = rw add-zero (sym (append-nil (concat_below m g)))
concat_below-add m (suc n) g =
    rw add-suc (ap (λ (xs : List ℕ). xs ++ g (m + n)) (concat_below-add m n g) ∙ append_assoc (concat_below m g) (concat_below n (λ i. g (m + i))) (g (m + n)))

-- some of them are no longer than all
pub concat_below-le : (n i : ℕ) (g : ℕ → List ℕ) → i ≤ n → length (concat_below i g) ≤ length (concat_below n g)
unfolding concat_below
concat_below-le zero i g h = let e : i ≡ 0 = omega arith in rw e (le_refl _)
concat_below-le (suc n) i g h = go (eq-or-lt_of_le h) (concat_below-le n i g)
  where
    go : (i ≡ suc n) ⊎ (i < suc n) → (i ≤ n → length (concat_below i g) ≤ length (concat_below n g)) → length (concat_below i g) ≤ length (concat_below n g ++ g n)
    go (inl e) r = rw e (le_refl _)
    go (inr l) r = omega (arith, r (omega arith), length-append (concat_below n g) (g n))

-- n lists with at most b entries each have at most n * b
pub concat_below-bound : (n b : ℕ) (g : ℕ → List ℕ) → ((i : ℕ) → i < n → length (g i) ≤ b) → length (concat_below n g) ≤ n * b
unfolding concat_below
concat_below-bound zero b g h = zero-le
concat_below-bound (suc n) b g h =
    let rest : length (concat_below n g) ≤ n * b = concat_below-bound n b g (λ i l. h i (omega arith)) in
    rw (length-append (concat_below n g) (g n), suc-mul n b) (omega (arith, h n (omega arith)))

-- lists that agree below n
pub concat_below-same : (n : ℕ) (g h : ℕ → List ℕ) → ((a : ℕ) → a < n → g a ≡ h a) → concat_below n g ≡ concat_below n h
unfolding concat_below
concat_below-same zero g h e = refl
concat_below-same (suc n) g h e =
    ap₂ (λ (xs ys : List ℕ). xs ++ ys) (concat_below-same n g h (λ a l. e a (omega arith))) (e n (omega arith))

-- a piece put before one of the pieces, where nothing stands before that one
pub concat_below-insert : (n s : ℕ) (x : List ℕ) (g h : ℕ → List ℕ) → s < n → ((v : ℕ) → v < s → h v ≡ []) → g s ≡ x ++ h s
    → ((v : ℕ) → (v ≡ s → ⊥) → g v ≡ h v) → concat_below n g ≡ x ++ concat_below n h
unfolding concat_below
concat_below-insert zero s x g h l before at other = absurd (not-suc-le-zero l)
concat_below-insert (suc n) s x g h l before at other = go (eq-or-lt_of_le (le_of_suc-le-suc l)) (concat_below-insert n s x g h)
  where
    go : (s ≡ n) ⊎ (s < n)
        → (s < n → ((v : ℕ) → v < s → h v ≡ []) → g s ≡ x ++ h s → ((v : ℕ) → (v ≡ s → ⊥) → g v ≡ h v) → concat_below n g ≡ x ++ concat_below n h)
        → concat_below n g ++ g n ≡ x ++ (concat_below n h ++ h n)
    go (inl e) r =
        let none : concat_below n h ≡ [] = concat_below-none n h (λ v m. before v (rw e m)) in
        let none' : concat_below n g ≡ [] = concat_below-none n g (λ v m. other v (λ q. omega arith) ∙ before v (rw e m)) in
        rw (none, none') (ap g (sym e) ∙ at ∙ ap (λ (k : ℕ). x ++ h k) e)
    go (inr m) r =
        ap₂ (λ (a b : List ℕ). a ++ b) (r m before at other) (other n (λ q. omega arith)) ∙ append_assoc x (concat_below n h) (h n)
