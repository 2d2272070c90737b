-- Links in strictly rising order are determined by which links there are. Assumes nothing.
use Rattle.std.specs.Prelude.{◌≡◌, ◌⊎◌, ◌∷◌, ◌<◌}
use Rattle.base_lists.specs.Kit.{◌∙◌, sym, refl, subst, ap₂, inl, inr, List, [], ℕ, suc, zero, suc-le-suc, not-suc-le-zero, zero-lt-suc, length, get_or, arith}
use Rattle.graph.specs.Circuit.{LinkAt, HasLink}
use Rattle.graph.specs.Rising.{LinksRise}
use Rattle.graph.proofs.Ball.{link-later, link-earlier, link-first}

-- one link, a start and an end, comes before another
abbrev pub Before : ℕ → ℕ → ℕ → ℕ → Type 0
Before s e s' e' = (s < s') ⊎ ((s ≡ s') × (e < e'))

before-itself : (s e v w : ℕ) → s ≡ v → e ≡ w → Before s e v w → ⊥
before-itself s e v w p q (inl h) = omega arith
before-itself s e v w p q (inr (i, h)) = omega arith

before-both : (s e v w : ℕ) → Before s e v w → Before v w s e → ⊥
before-both s e v w (inl h) (inl k) = omega arith
before-both s e v w (inl h) (inr (q, k)) = omega arith
before-both s e v w (inr (p, h)) (inl k) = omega arith
before-both s e v w (inr (p, h)) (inr (q, k)) = omega arith

module _ (s e : ℕ) (ss es : List ℕ) where
  head-link : HasLink (s ∷ ss) (e ∷ es) s e
  unfolding HasLink
  head-link = (zero, link-first ss es refl refl)

  tail-link : (v w : ℕ) → HasLink ss es v w → HasLink (s ∷ ss) (e ∷ es) v w
  unfolding HasLink
  tail-link v w l = (suc l.0, link-later l.1)

  -- a link is the first one or one of the rest
  link-cases : (v w : ℕ) → HasLink (s ∷ ss) (e ∷ es) v w → ((s ≡ v) × (e ≡ w)) ⊎ HasLink ss es v w
  unfolding HasLink
  link-cases v w l = go l.0 l.1
    where
      go : (i : ℕ) → LinkAt (s ∷ ss) (e ∷ es) v w i → ((s ≡ v) × (e ≡ w)) ⊎ ((j : ℕ) × LinkAt ss es v w j)
      go zero l = inl (l.start, l.end)
      go (suc i) l = inr (i, link-earlier l)

  module _ (rise : LinksRise (s ∷ ss) (e ∷ es)) where
    tail-rises : LinksRise ss es
    unfolding LinksRise
    tail-rises i j h l = rise (suc i) (suc j) (suc-le-suc h) (suc-le-suc l)

    -- the first link comes before each of the rest
    head-before : (v w : ℕ) → HasLink ss es v w → Before s e v w
    unfolding HasLink LinksRise
    head-before v w l =
        subst (λ (x : ℕ). Before s e x w) l.1.start
        (subst (λ (y : ℕ). Before s e (get_or ss l.0 0) y) l.1.end (rise zero (suc l.0) (zero-lt-suc _) (suc-le-suc l.1.in_starts)))

pub no-link : (v w : ℕ) → HasLink [] [] v w → ⊥
unfolding HasLink
no-link v w l = not-suc-le-zero l.1.in_starts

-- two rising lists that have each other's first link begin with the same link
same_head : (s e : ℕ) (ss es : List ℕ) (t f : ℕ) (ts fs : List ℕ) → LinksRise (s ∷ ss) (e ∷ es) → LinksRise (t ∷ ts) (f ∷ fs)
    → HasLink (t ∷ ts) (f ∷ fs) s e → HasLink (s ∷ ss) (e ∷ es) t f → (s ≡ t) × (e ≡ f)
same_head s e ss es t f ts fs rise rise' a b = go (link-cases t f ts fs s e a) (link-cases s e ss es t f b)
  where
    go : ((t ≡ s) × (f ≡ e)) ⊎ HasLink ts fs s e → ((s ≡ t) × (e ≡ f)) ⊎ HasLink ss es t f → (s ≡ t) × (e ≡ f)
    go (inl (p, q)) y = (sym p, sym q)
    go (inr x) (inl y) = y
    go (inr x) (inr y) = absurd (before-both t f s e (head-before t f ts fs rise' s e x) (head-before s e ss es rise t f y))

-- where the first links are the same, a list that has all links of another has all of the rest in its rest
tail-links : (s e : ℕ) (ss es : List ℕ) (t f : ℕ) (ts fs : List ℕ) → LinksRise (s ∷ ss) (e ∷ es) → s ≡ t → e ≡ f
    → ((v w : ℕ) → HasLink (s ∷ ss) (e ∷ es) v w → HasLink (t ∷ ts) (f ∷ fs) v w) → (v w : ℕ) → HasLink ss es v w → HasLink ts fs v w
tail-links s e ss es t f ts fs rise p q has v w l = go (link-cases t f ts fs v w (has v w (tail-link s e ss es v w l)))
  where
    go : ((t ≡ v) × (f ≡ w)) ⊎ HasLink ts fs v w → HasLink ts fs v w
    go (inl (a, b)) = absurd (before-itself s e v w (p ∙ a) (q ∙ b) (head-before s e ss es rise v w l))
    go (inr x) = x

-- the same links in rising order are the same lists
pub rising-determined : (ss es ts fs : List ℕ) → length ss ≡ length es → length ts ≡ length fs → LinksRise ss es → LinksRise ts fs
    → ((v w : ℕ) → HasLink ss es v w → HasLink ts fs v w) → ((v w : ℕ) → HasLink ts fs v w → HasLink ss es v w) → (ss ≡ ts) × (es ≡ fs)
rising-determined [] [] [] [] l l' rise rise' to from = (refl, refl)
rising-determined [] [] [] (f ∷ fs) l l' rise rise' to from = absurd (omega arith)
rising-determined [] [] (t ∷ ts) [] l l' rise rise' to from = absurd (omega arith)
rising-determined [] [] (t ∷ ts) (f ∷ fs) l l' rise rise' to from = absurd (no-link t f (from t f (head-link t f ts fs)))
rising-determined [] (e ∷ es) ts fs l l' rise rise' to from = absurd (omega arith)
rising-determined (s ∷ ss) [] ts fs l l' rise rise' to from = absurd (omega arith)
rising-determined (s ∷ ss) (e ∷ es) [] [] l l' rise rise' to from = absurd (no-link s e (to s e (head-link s e ss es)))
rising-determined (s ∷ ss) (e ∷ es) [] (f ∷ fs) l l' rise rise' to from = absurd (omega arith)
rising-determined (s ∷ ss) (e ∷ es) (t ∷ ts) [] l l' rise rise' to from = absurd (omega arith)
rising-determined (s ∷ ss) (e ∷ es) (t ∷ ts) (f ∷ fs) l l' rise rise' to from =
    let (p, q) = same_head s e ss es t f ts fs rise rise' (to s e (head-link s e ss es)) (from t f (head-link t f ts fs)) in
    let (ps, qs) =
    rising-determined ss es ts fs (omega arith) (omega arith) (tail-rises s e ss es rise) (tail-rises t f ts fs rise')
    (tail-links s e ss es t f ts fs rise p q to) (tail-links t f ts fs s e ss es rise' (sym p) (sym q) from) in
    (ap₂ (λ (x : ℕ) (l : List ℕ). x ∷ l) p ps, ap₂ (λ (x : ℕ) (l : List ℕ). x ∷ l) q qs)
