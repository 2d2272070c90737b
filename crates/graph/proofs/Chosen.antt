-- Choosing entries and links by a test of their index, or by a byte for each: which links the kept lists hold. Assumes nothing.
use Rattle.std.specs.Prelude.{◌≡◌, ◌↔◌, ◌∷◌, ◌≤◌, ◌<◌, ◌+◌}
use Rattle.base_lists.specs.Kit.{ap, refl, subst, Bool, false, true, cond, List, [], ℕ, suc, zero, zero-le, not-suc-le-zero, add-zero, T, length, get_or, arith}
use Rattle.base_lists.specs.List.{Below}
use Rattle.base_lists.specs.Below.{keep_from}
use Rattle.base_lists.proofs.Tests.{true-T, T_true}
use Rattle.graph.specs.Circuit.{Circuit, LinkAt, HasLink}
use Rattle.graph.specs.Search.{inside}
use Rattle.graph.specs.Chosen.{picked, chosen, ChosenLink}
use Rattle.graph.proofs.Ball.{link-later, link-earlier, link-first}

-- ---- the kept entries of two parallel lists

-- a link of the kept entries is a link whose index passes
kept-link :
    (i : ℕ) (p : ℕ → Bool) (ss es : List ℕ) (v w j : ℕ) → LinkAt (keep_from i p ss) (keep_from i p es) v w j →
    (k : ℕ) × LinkAt ss es v w k × T (p (k + i))
unfolding keep_from
kept-link i p [] es v w j l = absurd (not-suc-le-zero l.in_starts)
kept-link i p (s ∷ ss) [] v w j l = absurd (not-suc-le-zero l.in_ends)
kept-link i p (s ∷ ss) (e ∷ es) v w j l = go (p i) refl j l (λ j l. later (kept-link (suc i) p ss es v w j l))
  where
    Link : Type 0
    Link = (k : ℕ) × LinkAt (s ∷ ss) (e ∷ es) v w k × T (p (k + i))

    later : (k : ℕ) × LinkAt ss es v w k × T (p (k + suc i)) → Link
    later (k, l, t) = (suc k, link-later l, subst (λ x. T (p x)) (omega arith) t)

    go :
        (b : Bool) → p i ≡ b → (j : ℕ) →
        LinkAt (cond b (s ∷ keep_from (suc i) p ss) (keep_from (suc i) p ss)) (cond b (e ∷ keep_from (suc i) p es) (keep_from (suc i) p es)) v w j →
        ((j : ℕ) → LinkAt (keep_from (suc i) p ss) (keep_from (suc i) p es) v w j → Link) → Link
    go true q zero l r = (zero, link-first ss es l.start l.end, subst (λ x. T (p x)) (omega arith) (true-T q))
    go true q (suc j) l r = r j (link-earlier l)
    go false q j l r = r j l

-- and the other way round
link-kept :
    (i : ℕ) (p : ℕ → Bool) (ss es : List ℕ) (v w k : ℕ) → LinkAt ss es v w k → T (p (k + i)) →
    HasLink (keep_from i p ss) (keep_from i p es) v w
unfolding keep_from HasLink
link-kept i p [] es v w k l t = absurd (not-suc-le-zero l.in_starts)
link-kept i p (s ∷ ss) [] v w k l t = absurd (not-suc-le-zero l.in_ends)
link-kept i p (s ∷ ss) (e ∷ es) v w zero l t =
    rw (T_true {b = p i} (subst (λ x. T (p x)) (omega arith) t)) (zero, link-first _ _ l.start l.end)
link-kept i p (s ∷ ss) (e ∷ es) v w (suc k) l t =
    go (p i) (link-kept (suc i) p ss es v w k (link-earlier l) (subst (λ x. T (p x)) (omega arith) t))
  where
    go :
        (b : Bool) → HasLink (keep_from (suc i) p ss) (keep_from (suc i) p es) v w →
        HasLink (cond b (s ∷ keep_from (suc i) p ss) (keep_from (suc i) p ss)) (cond b (e ∷ keep_from (suc i) p es) (keep_from (suc i) p es)) v w
    go true (j, l) = (suc j, link-later l)
    go false l = l

-- The kept lists hold the links whose index passes.
pub kept-iff :
    (p : ℕ → Bool) (ss es : List ℕ) (v w : ℕ) →
    HasLink (keep_from zero p ss) (keep_from zero p es) v w ↔ ((i : ℕ) × LinkAt ss es v w i × T (p i))
unfolding HasLink
kept-iff p ss es v w = (
  λ (j, l). let (i, m, t) = kept-link zero p ss es v w j l in (i, m, rw add-zero at t),
  λ (i, l, t). link-kept zero p ss es v w i l (rw add-zero t),
)

-- ---- chosen links

-- The chosen circuit's links are the circuit's links whose byte is 1.
pub chosen-iff : (c : Circuit) (marks : List ℕ) (v w : ℕ) → HasLink (chosen c marks).starts (chosen c marks).ends v w ↔ ChosenLink c marks v w
unfolding chosen picked ChosenLink
chosen-iff c marks v w = kept-iff (inside marks) c.starts c.ends v w

-- they are links of the circuit
pub chosen-has : (c : Circuit) (marks : List ℕ) (v w : ℕ) → ChosenLink c marks v w → HasLink c.starts c.ends v w
unfolding ChosenLink HasLink
chosen-has c marks v w (i, l, t) = (i, l)

-- ---- the kept entries of one list

-- no more are kept than there are
kept-short : (i : ℕ) (p : ℕ → Bool) (xs : List ℕ) → length (keep_from i p xs) ≤ length xs
unfolding keep_from
kept-short i p [] = zero-le
kept-short i p (x ∷ xs) = go (p i) (kept-short (suc i) p xs)
  where
    go : (b : Bool) → length (keep_from (suc i) p xs) ≤ length xs → length (cond b (x ∷ keep_from (suc i) p xs) (keep_from (suc i) p xs)) ≤ suc (length xs)
    go true h = omega arith
    go false h = omega arith

-- of lists of the same length equally many
kept-parallel : (i : ℕ) (p : ℕ → Bool) (xs ys : List ℕ) → length xs ≡ length ys → length (keep_from i p xs) ≡ length (keep_from i p ys)
unfolding keep_from
kept-parallel i p [] [] e = refl
kept-parallel i p [] (y ∷ ys) e = absurd (omega arith)
kept-parallel i p (x ∷ xs) [] e = absurd (omega arith)
kept-parallel i p (x ∷ xs) (y ∷ ys) e = go (p i) (kept-parallel (suc i) p xs ys (omega arith))
  where
    go : (b : Bool) → length (keep_from (suc i) p xs) ≡ length (keep_from (suc i) p ys)
        → length (cond b (x ∷ keep_from (suc i) p xs) (keep_from (suc i) p xs)) ≡ length (cond b (y ∷ keep_from (suc i) p ys) (keep_from (suc i) p ys))
    go true h = ap suc h
    go false h = h

-- what holds of each entry holds of each kept one
kept_at : (i : ℕ) (p : ℕ → Bool) (xs : List ℕ) (j : ℕ) → j < length (keep_from i p xs) → (k : ℕ) × (k < length xs) × (get_or (keep_from i p xs) j 0 ≡ get_or xs k 0)
unfolding keep_from
kept_at i p [] j h = absurd (not-suc-le-zero h)
kept_at i p (x ∷ xs) j h = go (p i) j h (kept_at (suc i) p xs)
  where
    Entry : ℕ → Type 0
    Entry y = (k : ℕ) × (k < suc (length xs)) × (y ≡ get_or (x ∷ xs) k 0)

    go : (b : Bool) (j : ℕ) → j < length (cond b (x ∷ keep_from (suc i) p xs) (keep_from (suc i) p xs))
        → ((j : ℕ) → j < length (keep_from (suc i) p xs) → (k : ℕ) × (k < length xs) × (get_or (keep_from (suc i) p xs) j 0 ≡ get_or xs k 0))
        → Entry (get_or (cond b (x ∷ keep_from (suc i) p xs) (keep_from (suc i) p xs)) j 0)
    go true zero h r = (zero, omega arith, refl)
    go true (suc j) h r = let (k, l, e) = r j (omega arith) in (suc k, omega arith, e)
    go false j h r = let (k, l, e) = r j h in (suc k, omega arith, e)

-- where each index passes, all are kept
kept-all : (i : ℕ) (p : ℕ → Bool) (xs : List ℕ) → ((k : ℕ) → k < length xs → T (p (k + i))) → keep_from i p xs ≡ xs
unfolding keep_from
kept-all i p [] t = refl
kept-all i p (x ∷ xs) t =
    rw (T_true {b = p i} (subst (λ n. T (p n)) (omega arith) (t zero (omega arith))))
    (ap (λ (ys : List ℕ). x ∷ ys) (kept-all (suc i) p xs (λ k h. subst (λ n. T (p n)) (omega arith) (t (suc k) (omega arith)))))

module _ (marks : List ℕ) where
  pub length-picked : (xs : List ℕ) → length (picked marks xs) ≤ length xs
  unfolding picked
  length-picked xs = kept-short zero (inside marks) xs

  pub picked-parallel : (xs ys : List ℕ) → length xs ≡ length ys → length (picked marks xs) ≡ length (picked marks ys)
  unfolding picked
  picked-parallel xs ys e = kept-parallel zero (inside marks) xs ys e

  pub picked-below : (n : ℕ) (xs : List ℕ) → Below n xs → Below n (picked marks xs)
  unfolding picked Below
  picked-below n xs b j h = let (k, l, e) = kept_at zero (inside marks) xs j h in rw e (b k l)

  -- with a byte of 1 for each entry all are picked
  pub picked_all : (xs : List ℕ) → ((i : ℕ) → i < length xs → T (inside marks i)) → picked marks xs ≡ xs
  unfolding picked
  picked_all xs t = kept-all zero (inside marks) xs (λ k h. rw add-zero (t k h))

-- So with a byte of 1 for each link the chosen circuit is the circuit.
pub chosen-all :
    (c : Circuit) (marks : List ℕ) → length c.starts ≡ length c.ends → ((i : ℕ) → i < length c.starts → T (inside marks i)) → chosen c marks ≡ c
unfolding chosen
chosen-all c marks parallel t = rw (picked_all marks c.starts t, picked_all marks c.ends (λ i h. t i (omega arith)))
