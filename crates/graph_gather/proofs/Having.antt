-- Those of a list's nodes that pass a test: how many they are, and one node more. Assumes nothing.
use Rattle.std.specs.Prelude.{◌≡◌, ◌∷◌, ◌++◌, ◌≤◌, ◌<◌, ◌+◌}
use Rattle.base_lists.specs.Kit.{◌∙◌, ap, refl, Bool, false, true, cond, List, [], ℕ, suc, zero-le, suc-le-suc, le_step, add-one, length, get_or, take, length-append, take-suc}
use Rattle.graph_gather.specs.Having.{having}

module _ (p : ℕ → Bool) where
  pub having-short : (xs : List ℕ) → length (having p xs) ≤ length xs
  unfolding having
  having-short [] = zero-le
  having-short (x ∷ xs) = go (p x) (having-short xs)
    where
      go : (b : Bool) → length (having p xs) ≤ length xs → length (cond b (x ∷ having p xs) (having p xs)) ≤ suc (length xs)
      go true h = suc-le-suc h
      go false h = le_step h

  -- one node more
  pub having-more : (xs : List ℕ) (v : ℕ) → having p (xs ++ (v ∷ [])) ≡ having p xs ++ cond (p v) (v ∷ []) []
  unfolding having
  having-more [] v = refl
  having-more (x ∷ xs) v = go (p x) (having-more xs v)
    where
      go : (b : Bool) → having p (xs ++ (v ∷ [])) ≡ having p xs ++ cond (p v) (v ∷ []) []
          → cond b (x ∷ having p (xs ++ (v ∷ []))) (having p (xs ++ (v ∷ []))) ≡ cond b (x ∷ having p xs) (having p xs) ++ cond (p v) (v ∷ []) []
      go true e = ap (λ (l : List ℕ). x ∷ l) e
      go false e = e

  -- the same, counted
  pub having-count : (xs : List ℕ) (i : ℕ) → i < length xs → length (having p (take (i + 1) xs)) ≡ length (having p (take i xs)) + cond (p (get_or xs i 0)) 1 0
  having-count xs i h =
      rw (add-one i)
      (ap (λ (l : List ℕ). length (having p l)) (take-suc xs i 0 h) ∙ ap length (having-more (take i xs) (get_or xs i 0))
      ∙ length-append (having p (take i xs)) _ ∙ ap (λ (k : ℕ). length (having p (take i xs)) + k) (go (p (get_or xs i 0))))
    where
      go : (b : Bool) → length (cond b (get_or xs i 0 ∷ []) []) ≡ cond b 1 0
      go true = refl
      go false = refl
