-- Choosing in place, entry by entry: the chosen ones of those passed stand in front, and those to come are as they were. Assumes nothing.
use Rattle.std.specs.Prelude.{◌≡◌, ◌∷◌, ◌++◌, ◌≤◌, ◌<◌, ◌+◌}
use Rattle.base_lists.specs.Kit.{◌∙◌, sym, ap, refl, ap₂, Bool, false, true, cond, List, [], append-nil, ℕ, suc, zero, add-zero, add-one, length, get_or, take, set, length-set, length-take-le, get_or-set_other, take_all, take-suc, take-suc-set, arith, eq-eqb, ne_eqb}
use Rattle.base_lists.specs.Below.{keep_from}
use Rattle.graph.specs.Chosen.{picked}
use Rattle.graph.specs.Search.{inside}

-- ---- one entry after another

kept_append : (i : ℕ) (p : ℕ → Bool) (xs ys : List ℕ) → keep_from i p (xs ++ ys) ≡ keep_from i p xs ++ keep_from (length xs + i) p ys
unfolding keep_from
kept_append i p [] ys = ap (λ (j : ℕ). keep_from j p ys) (omega arith)
kept_append i p (x ∷ xs) ys = go (p i) (kept_append (suc i) p xs ys) (omega arith)
  where
    go :
        (b : Bool) → keep_from (suc i) p (xs ++ ys) ≡ keep_from (suc i) p xs ++ keep_from (length xs + suc i) p ys → length xs + suc i ≡ suc (length xs) + i →
        cond b (x ∷ keep_from (suc i) p (xs ++ ys)) (keep_from (suc i) p (xs ++ ys))
        ≡ cond b (x ∷ keep_from (suc i) p xs) (keep_from (suc i) p xs) ++ keep_from (suc (length xs) + i) p ys
    go true h e = rw (h, e)
    go false h e = rw (h, e)

-- the picked ones of the first i entries, and then of one more
picked_more :
    (marks xs : List ℕ) (i : ℕ) → i < length xs →
    picked marks (take (suc i) xs) ≡ picked marks (take i xs) ++ cond (inside marks i) (get_or xs i 0 ∷ []) []
unfolding picked keep_from
picked_more marks xs i h =
    ap (keep_from zero (inside marks)) (take-suc xs i 0 h)
    ∙ kept_append zero (inside marks) (take i xs) (get_or xs i 0 ∷ [])
    ∙ ap (λ (j : ℕ). keep_from zero (inside marks) (take i xs) ++ cond (inside marks j) (get_or xs i 0 ∷ []) [])
    (rw (length-take-le i xs (omega arith)) (add-zero i))

-- ---- in place

-- of the entries xs the first i are passed, k of them are chosen, and l is what stands now
pub record ChosenTo (marks xs : List ℕ) (i k : ℕ) (l : List ℕ) : Type 0 where
  pub within : i ≤ length marks
  pub long : length l ≡ length xs
  pub behind : k ≤ i
  pub prefix : take k l ≡ picked marks (take i xs)
  pub rest : (j : ℕ) → i ≤ j → get_or l j 0 ≡ get_or xs j 0

none-picked : (marks : List ℕ) → [] ≡ picked marks []
unfolding picked keep_from
none-picked marks = refl

pub chosen_none : (marks xs : List ℕ) → ChosenTo marks xs 0 0 xs
chosen_none marks xs = record { within = omega arith; long = refl; behind = omega arith; prefix = none-picked marks; rest = λ j h. refl }

module _ {marks xs l : List ℕ} {i k : ℕ} (same : length marks ≡ length xs) (c : ChosenTo marks xs i k l) (h : i < length marks) where
  pub chosen-one : get_or marks i 0 ≡ 1 → ChosenTo marks xs (i + 1) (k + 1) (set l k (get_or l i 0))
  unfolding inside
  chosen-one e =
      record {
        within = omega arith;
        long = length-set l k (get_or l i 0) ∙ c.long;
        behind = omega (arith, c.behind);
        prefix =
            ap (λ (m : ℕ). take m (set l k (get_or l i 0))) (add-one k)
            ∙ take-suc-set l k (get_or l i 0) (omega (arith, c.behind, c.long))
            ∙ ap₂ (λ (f : List ℕ) (x : ℕ). f ++ (x ∷ [])) c.prefix (c.rest i (omega arith))
            ∙ sym (rw (add-one i, picked_more marks xs i (omega arith), eq-eqb (get_or marks i 0) 1 e));
        rest = λ j b. get_or-set_other l k j (get_or l i 0) 0 (omega (arith, c.behind)) ∙ c.rest j (omega arith);
      }

  pub chosen-other : (get_or marks i 0 ≡ 1 → ⊥) → ChosenTo marks xs (i + 1) k l
  unfolding inside
  chosen-other e =
      record {
        within = omega arith;
        long = c.long;
        behind = omega (arith, c.behind);
        prefix = c.prefix ∙ sym (rw (add-one i, picked_more marks xs i (omega arith), ne_eqb (get_or marks i 0) 1 e, append-nil));
        rest = λ j b. c.rest j (omega arith);
      }

-- all are passed
pub chosen-all : {marks xs l : List ℕ} {i k : ℕ} → length marks ≡ length xs → ChosenTo marks xs i k l → length marks ≤ i → take k l ≡ picked marks xs
chosen-all {marks} {xs} {i = i} same c h = c.prefix ∙ ap (picked marks) (take_all i xs (omega arith))
