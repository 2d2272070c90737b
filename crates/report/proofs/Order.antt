-- The file's order of links is node by node: where starts do not fall, the texts of all links one after another are those of the links that
-- start at node 0, then at node 1, and so on. Assumes nothing.
use Rattle.std.specs.Prelude.{◌≡◌, ◌∷◌, ◌++◌, ◌≤◌, ◌<◌}
use Rattle.base_lists.specs.Kit.{◌∙◌, sym, ap, refl, cond, List, [], ℕ, suc, zero, suc-le-suc, not-suc-le-zero, zero-lt-suc, suc_inj, suc-ne-zero, eqb, length, get_or, arith, eq-eqb, ne_eqb}
use Rattle.base_lists.specs.Below.{concat_below}
use Rattle.base_lists.specs.List.{Below}
use Rattle.base_lists.proofs.Concat.{concat_below-none, concat_below-first, concat_below-insert}
use Rattle.graph.specs.Neighbours.{select}

-- nothing stands beside a number below every start
select-none : (starts ends : List ℕ) (v : ℕ) → ((i : ℕ) → i < length starts → v < get_or starts i 0) → select starts ends v ≡ []
unfolding select
select-none [] ends v h = refl
select-none (s ∷ ss) [] v h = refl
select-none (s ∷ ss) (e ∷ es) v h =
    rw (ne_eqb s v (λ q. omega (arith, h zero (zero-lt-suc _)))) (select-none ss es v (λ i l. h (suc i) (suc-le-suc l)))

module _ (text : ℕ → ℕ → List ℕ) where
  -- the texts of the links from v to the nodes of a list
  abbrev pub from : ℕ → List ℕ → List ℕ
  from v ws = concat_below (length ws) (λ i. text v (get_or ws i 0))

  from-none : (v : ℕ) (ws : List ℕ) → ws ≡ [] → from v ws ≡ []
  unfolding concat_below
  from-none v ws e = rw e

  -- the links in their order are those of each start in turn
  pub links-by-start : (n : ℕ) (starts ends : List ℕ) → length starts ≡ length ends → Below n starts
      → ((i j : ℕ) → i < j → j < length starts → get_or starts i 0 ≤ get_or starts j 0)
      → concat_below (length starts) (λ i. text (get_or starts i 0) (get_or ends i 0)) ≡ concat_below n (λ v. from v (select starts ends v))
  unfolding select Below
  links-by-start n [] ends e below rise =
      concat_below-none zero _ (λ i l. absurd (not-suc-le-zero l)) ∙ sym (concat_below-none n (λ v. from v (select [] ends v)) (λ v l. from-none v [] refl))
  links-by-start n (s ∷ ss) [] e below rise = absurd (suc-ne-zero _ e)
  links-by-start n (s ∷ ss) (f ∷ es) e below rise =
      concat_below-first (length ss) (λ i. text (get_or (s ∷ ss) i 0) (get_or (f ∷ es) i 0))
      ∙ ap (λ (r : List ℕ). text s f ++ r)
      (links-by-start n ss es (suc_inj e) (λ i l. below (suc i) (suc-le-suc l)) (λ i j l m. rise (suc i) (suc j) (suc-le-suc l) (suc-le-suc m)))
      ∙ sym (concat_below-insert n s (text s f) (λ v. from v (select (s ∷ ss) (f ∷ es) v)) (λ v. from v (select ss es v)) (below zero (zero-lt-suc _)) before here other)
    where
      before : (v : ℕ) → v < s → from v (select ss es v) ≡ []
      before v l = from-none v _ (select-none ss es v (λ i m. omega (arith, rise zero (suc i) (zero-lt-suc i) (suc-le-suc m))))

      here : from s (cond (eqb s s) (f ∷ select ss es s) (select ss es s)) ≡ text s f ++ from s (select ss es s)
      here = rw (eq-eqb s s refl) (concat_below-first (length (select ss es s)) (λ i. text s (get_or (f ∷ select ss es s) i 0)))

      other : (v : ℕ) → (v ≡ s → ⊥) → from v (cond (eqb s v) (f ∷ select ss es v) (select ss es v)) ≡ from v (select ss es v)
      other v q = rw (ne_eqb s v (λ r. q (sym r)))
