-- What the test on the links' order means: each link comes before every later one. Assumes nothing.
use Rattle.std.specs.Prelude.{◌≡◌, ◌↔◌, ◌⊎◌, ◌&&◌, ◌≤◌, ◌<◌, ◌+◌, ◌-◌}
use Rattle.base_lists.specs.Kit.{◌∙◌, subst, ⊎_elim, inl, inr, List, ℕ, suc, zero, not-suc-le-zero, add-one, T, eqb, ltb, eqb→eq, ltb→lt, lt→ltb, length, get_or, arith, eq-eqb, ltb-false}
use Rattle.base_lists.proofs.Tests.{both_true, both_left, both_right, either_left, either-right, either-cases, all_below-at, at-all_below, true-T, T_false, decide}
use Rattle.graph.specs.Rising.{LinksRise}
use Rattle.graph.proofs.RisingLinks.{Before}
use Rattle.file_format.specs.Links.{earlier, rising}

earlier-before : (s e s' e' : ℕ) → T (earlier s e s' e') → Before s e s' e'
unfolding earlier
earlier-before s e s' e' t =
    ⊎_elim (λ h. inl (ltb→lt s s' h)) (λ h. inr (eqb→eq s s' (both_left (eqb s s') _ h), ltb→lt e e' (both_right (eqb s s') _ h)))
    (either-cases (ltb s s') _ t)

before-earlier : (s e s' e' : ℕ) → Before s e s' e' → T (earlier s e s' e')
unfolding earlier
before-earlier s e s' e' b =
    ⊎_elim
    (λ l. either_left (ltb s s') (eqb s s' && ltb e e') (lt→ltb s s' l))
    (λ (q, l). either-right (ltb s s') (eqb s s' && ltb e e') (both_true (eqb s s') (ltb e e') (true-T (eq-eqb s s' q)) (lt→ltb e e' l)))
    b

-- what the test of two links means
pub earlier-iff : (s e s' e' : ℕ) → T (earlier s e s' e') ↔ Before s e s' e'
earlier-iff s e s' e' = (earlier-before s e s' e', before-earlier s e s' e')

before-trans : (s e s' e' s'' e'' : ℕ) → Before s e s' e' → Before s' e' s'' e'' → Before s e s'' e''
before-trans s e s' e' s'' e'' (inl a) (inl b) = inl (omega arith)
before-trans s e s' e' s'' e'' (inl a) (inr (p, b)) = inl (omega arith)
before-trans s e s' e' s'' e'' (inr (p, a)) (inl b) = inl (omega arith)
before-trans s e s' e' s'' e'' (inr (p, a)) (inr (q, b)) = inr (p ∙ q, omega arith)

module _ (starts ends : List ℕ) (t : T (rising starts ends)) where
  -- each link comes before the next
  next : (i : ℕ) → suc i < length starts → Before (get_or starts i 0) (get_or ends i 0) (get_or starts (suc i) 0) (get_or ends (suc i) 0)
  unfolding rising
  next i h =
      subst (λ (j : ℕ). Before (get_or starts i 0) (get_or ends i 0) (get_or starts j 0) (get_or ends j 0)) (add-one i)
      (earlier-before _ _ _ _ (all_below-at (length starts - 1) _ t i (omega arith)))

  later : (i j : ℕ) → i < j → j < length starts → Before (get_or starts i 0) (get_or ends i 0) (get_or starts j 0) (get_or ends j 0)
  later i zero h l = absurd (not-suc-le-zero h)
  later i (suc j) h l = go (decide (ltb i j)) (later i j)
    where
      go : T (ltb i j) ⊎ (T (ltb i j) → ⊥) → (i < j → j < length starts → Before (get_or starts i 0) (get_or ends i 0) (get_or starts j 0) (get_or ends j 0))
          → Before (get_or starts i 0) (get_or ends i 0) (get_or starts (suc j) 0) (get_or ends (suc j) 0)
      go (inl k) rest = before-trans _ _ _ _ _ _ (rest (ltb→lt i j k) (omega arith)) (next j l)
      go (inr k) rest =
          let j≤i : j ≤ i = ltb-false i j (T_false k) in
          let e : j ≡ i = omega arith in
          subst (λ (k : ℕ). Before (get_or starts k 0) (get_or ends k 0) (get_or starts (suc j) 0) (get_or ends (suc j) 0)) e (next j l)

  pub rising-links : LinksRise starts ends
  unfolding LinksRise
  rising-links = later

-- links that rise pass the test of the files
pub rise-test : (starts ends : List ℕ) → LinksRise starts ends → T (rising starts ends)
unfolding rising LinksRise
rise-test starts ends rise =
    at-all_below (length starts - 1) _ (λ i h. before-earlier _ _ _ _ (rise i (i + 1) (omega arith) (omega arith)))
