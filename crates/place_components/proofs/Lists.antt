-- Lists without repeats: one whose entries all occur in another is not longer, so that where it is as long it has all of the other's; and those of
-- a list's nodes that pass a test. Assumes nothing.
use Rattle.std.specs.Prelude.{◌≡◌, ◌∷◌, ◌++◌, ◌≤◌, ◌<◌}
use Rattle.base_lists.specs.Kit.{◌∙◌, sym, ap, refl, subst, Bool, false, true, cond, List, [], ℕ, suc, zero, suc-le-suc, not-suc-le-zero, le_of_suc-le-suc, zero-lt-suc, T, eqb, eqb_refl, length, get_or, length-append, get_or-append, arith, ne_eqb}
use Rattle.base_lists.specs.List.{Occurs, Below}
use Rattle.base_lists.specs.Below.{least_below}
use Rattle.base_lists.proofs.Below.{least_below-is, count_below-all}
use Rattle.base_lists.proofs.Ranks.{count-images}
use Rattle.base_lists.proofs.Tests.{true-T, false-T}
use Rattle.graph.proofs.BfsScan.{elem, elem-occurs, occurs-elem}
use Rattle.table.specs.Fill.{Distinct, NodeList}
use Rattle.graph_gather.specs.Having.{having}
use Rattle.graph_gather.proofs.Having.{having-short}

-- ---- no entry twice

distinct_cons : (x : ℕ) (xs : List ℕ) → (Occurs xs x → ⊥) → Distinct xs → Distinct (x ∷ xs)
unfolding Distinct
distinct_cons x xs f d = go
  where
    go : (i j : ℕ) → i < j → j < length (x ∷ xs) → get_or (x ∷ xs) i 0 ≡ get_or (x ∷ xs) j 0 → ⊥
    go zero zero h k e = not-suc-le-zero h
    go zero (suc j) h k e = f (j, le_of_suc-le-suc k, sym e)
    go (suc i) zero h k e = not-suc-le-zero h
    go (suc i) (suc j) h k e = d i j (le_of_suc-le-suc h) (le_of_suc-le-suc k) e

distinct-rest : (x : ℕ) (xs : List ℕ) → Distinct (x ∷ xs) → Distinct xs
unfolding Distinct
distinct-rest x xs d = λ i j h k e. d (suc i) (suc j) (suc-le-suc h) (suc-le-suc k) e

distinct-first : (x : ℕ) (xs : List ℕ) → Distinct (x ∷ xs) → Occurs xs x → ⊥
unfolding Distinct
distinct-first x xs d (j, k, e) = d zero (suc j) (zero-lt-suc j) (suc-le-suc k) (sym e)

-- the first of a list of nodes are one
pub first-list : {n : ℕ} (xs ys : List ℕ) → NodeList n (xs ++ ys) → NodeList n xs
unfolding Below Distinct
first-list {n} xs ys l =
    let long = length-append xs ys in
    record {
      below = λ i h. subst (λ (v : ℕ). v < n) (get_or-append xs ys 0 i h) (l.below i (omega arith));
      distinct = λ i j h k e. l.distinct i j h (omega arith) (get_or-append xs ys 0 i (omega arith) ∙ e ∙ sym (get_or-append xs ys 0 j k));
      short = omega (arith, l.short);
    }

-- ---- as long as another

pub few-within : (xs ys : List ℕ) → Distinct xs → ((v : ℕ) → Occurs xs v → Occurs ys v) → length xs ≤ length ys
unfolding Distinct
few-within xs ys d inner =
    let m : ℕ = length xs in
    let at : ℕ → ℕ = λ j. least_below m (λ i. eqb (get_or xs i 0) (get_or ys j 0)) in
    subst (λ (k : ℕ). k ≤ length ys) (count_below-all m)
    (count-images m (length ys) (λ i. true) at
    (λ i h _.
    let (j, l, e) = inner (get_or xs i 0) (i, h, refl) in (
      j,
      l,
      ap (λ (y : ℕ). least_below m (λ k. eqb (get_or xs k 0) y)) e
          ∙ least_below-is m (λ k. eqb (get_or xs k 0) (get_or xs i 0)) i h (eqb_refl (get_or xs i 0)) (λ k b. ne_eqb _ _ (d k i b h)),
    )))

pub all-within : (xs ys : List ℕ) → Distinct xs → ((v : ℕ) → Occurs xs v → Occurs ys v) → length ys ≤ length xs → (v : ℕ) → Occurs ys v → Occurs xs v
all-within xs ys d inner few v o = go (elem v xs) refl
  where
    more : (w : ℕ) → Occurs (v ∷ xs) w → Occurs ys w
    more w (zero, h, e) = subst (Occurs ys) e o
    more w (suc i, h, e) = inner w (i, le_of_suc-le-suc h, e)

    go : (b : Bool) → elem v xs ≡ b → Occurs xs v
    go true e = elem-occurs v xs (true-T e)
    go false e = absurd (omega (arith, few-within (v ∷ xs) ys (distinct_cons v xs (λ q. false-T e (occurs-elem v xs q)) d) more))

-- ---- those that pass a test

module _ (p : ℕ → Bool) where
  pub having-from : (xs : List ℕ) (v : ℕ) → Occurs (having p xs) v → Occurs xs v × T (p v)
  unfolding having
  having-from [] v (i, h, e) = absurd (not-suc-le-zero h)
  having-from (x ∷ xs) v o = go (p x) refl o (having-from xs v)
    where
      later : Occurs xs v × T (p v) → Occurs (x ∷ xs) v × T (p v)
      later ((i, h, e), t) = ((suc i, suc-le-suc h, e), t)

      go : (b : Bool) → p x ≡ b → Occurs (cond b (x ∷ having p xs) (having p xs)) v → (Occurs (having p xs) v → Occurs xs v × T (p v))
          → Occurs (x ∷ xs) v × T (p v)
      go true q (zero, h, e) r = ((zero, zero-lt-suc _, e), subst (λ (y : ℕ). T (p y)) e (true-T q))
      go true q (suc i, h, e) r = later (r (i, le_of_suc-le-suc h, e))
      go false q o r = later (r o)

  pub having-to : (xs : List ℕ) (v : ℕ) → Occurs xs v → T (p v) → Occurs (having p xs) v
  unfolding having
  having-to [] v (i, h, e) t = absurd (not-suc-le-zero h)
  having-to (x ∷ xs) v (zero, h, e) t = go (p x) refl
    where
      go : (b : Bool) → p x ≡ b → Occurs (cond b (x ∷ having p xs) (having p xs)) v
      go true q = (zero, zero-lt-suc _, e)
      go false q = absurd (false-T q (subst (λ (y : ℕ). T (p y)) (sym e) t))
  having-to (x ∷ xs) v (suc i, h, e) t = go (p x) (having-to xs v (i, le_of_suc-le-suc h, e) t)
    where
      go : (b : Bool) → Occurs (having p xs) v → Occurs (cond b (x ∷ having p xs) (having p xs)) v
      go true (j, k, q) = (suc j, suc-le-suc k, q)
      go false o = o

  having-distinct : (xs : List ℕ) → Distinct xs → Distinct (having p xs)
  unfolding having
  having-distinct [] d = d
  having-distinct (x ∷ xs) d = go (p x) (having-distinct xs (distinct-rest x xs d))
    where
      go : (b : Bool) → Distinct (having p xs) → Distinct (cond b (x ∷ having p xs) (having p xs))
      go true r = distinct_cons x (having p xs) (λ o. distinct-first x xs d (having-from xs x o).0) r
      go false r = r

  pub having-list : {n : ℕ} {xs : List ℕ} → NodeList n xs → NodeList n (having p xs)
  unfolding Below
  having-list {n} {xs} l =
      record {
        below = λ i h. let (j, k, e) = (having-from xs (get_or (having p xs) i 0) (i, h, refl)).0 in subst (λ (v : ℕ). v < n) e (l.below j k);
        distinct = having-distinct xs l.distinct;
        short = omega (arith, having-short p xs, l.short);
      }
