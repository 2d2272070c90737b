-- The distances, the radius and the test of connectedness of specs/Search are those of specs/Graph. Assumes nothing.
use Rattle.std.specs.Prelude.{◌≡◌, ◌↔◌, ◌⊎◌, ◌≢◌, ◌∷◌, ◌≤◌, ◌<◌, ◌+◌, ◌-◌}
use Rattle.base_lists.specs.Kit.{◌∙◌, sym, ap, refl, subst, ⊎_elim, inl, inr, Bool, false, true, cond, not, List, [], ℕ, suc, zero, zero-le, le_refl, le_trans, zero-add, le_antisymm, lt_of_not-le, not-le_of_lt, T, eqb, lit<, length, get_or, ext_get_or, arith, eq-eqb, ne_eqb}
use Rattle.base_lists.specs.List.{all, tabulate, maximum}
use Rattle.base_lists.proofs.Tests.{T_true, T_false, decide, all-at, at_all}
use Rattle.base_lists.proofs.Tables.{length-tabulate, get_d_tabulate, is-tabulate}
use Rattle.base_lists.proofs.Rows.{get_or-le-maximum, maximum-attained, rule-le-maximum, rule-maximum-attained}
use Rattle.graph.specs.Graph.{Graph, Walk, Distance, InBall, Ball, DistanceEntry, Connected, Radius}
use Rattle.graph.specs.Circuit.{HasLink, graph_of}
use Rattle.graph.specs.Search.{far, beside, inside, ball, misses, distances, connected, radius}
use Rattle.graph.proofs.Walks.{walk-recount, walk-reverse, walk-append, distance-unique}
use Rattle.graph.proofs.Ball.{Within, within_all, length-ball, ball-entry, inside-node, inside-centre, inside-mono, ball-walk, walk-node, walk-ball, walk-final}

-- ---- the first ball that has a node

-- d is the least radius at which the ball around c has v
record Least (n : ℕ) (ss es : List ℕ) (c v d : ℕ) : Type 0 where
  has : T (inside (ball n ss es c d) v)
  least : (k : ℕ) → T (inside (ball n ss es c k) v) → d ≤ k

module _ (n : ℕ) (ss es : List ℕ) (c : ℕ) where
  -- one more radius adds a miss, or none
  misses-suc : (r v : ℕ) (b : Bool) → inside (ball n ss es c r) v ≡ b → misses n ss es c (suc r) v ≡ cond b 0 1 + misses n ss es c r v
  unfolding misses
  misses-suc r v b e = ap (λ x. cond x 0 1 + misses n ss es c r v) e

  -- a node outside the ball at radius r is outside each smaller one
  misses-outside : (r v : ℕ) → (T (inside (ball n ss es c r) v) → ⊥) → misses n ss es c r v ≡ r
  unfolding misses
  misses-outside zero v f = refl
  misses-outside (suc r) v f =
      let g : T (inside (ball n ss es c r) v) → ⊥ = λ t. f (inside-mono n ss es c r (suc r) v (omega arith) t) in
      omega (arith, misses-suc r v false (T_false g), misses-outside r v g)

  -- the number of misses is the least radius
  misses-least : (r v : ℕ) → T (inside (ball n ss es c r) v) → Least n ss es c v (misses n ss es c r v)
  unfolding misses
  misses-least zero v t = record { has = t; least = λ k _. zero-le }
  misses-least (suc r) v t =
      ⊎_elim
      (λ a. subst (Least n ss es c v) (sym (misses-suc r v true (T_true a) ∙ zero-add _)) (misses-least r v a))
      (λ f. subst (Least n ss es c v) (sym (all-missed f)) (record { has = t; least = λ k q. lt_of_not-le (λ l. f (inside-mono n ss es c k r v l q)) }))
      (decide (inside (ball n ss es c r) v))
    where
      all-missed : (T (inside (ball n ss es c r) v) → ⊥) → misses n ss es c (suc r) v ≡ suc r
      all-missed f = omega (arith, misses-suc r v false (T_false f), misses-outside r v f)

  -- ---- the row of distances

  -- an entry of the row, where the test at its node is known
  distances-at : (r v y : ℕ) (b : Bool) → inside (ball n ss es c r) v ≡ b → v < n → get_or (distances n ss es c r) v y ≡ cond b (misses n ss es c r v) far
  unfolding distances
  distances-at r v y b e h = get_d_tabulate n _ v y h ∙ ap (λ x. cond x (misses n ss es c r v) far) e

  pub length-distances : (r : ℕ) → length (distances n ss es c r) ≡ n
  unfolding distances
  length-distances r = length-tabulate n _

  -- the entry of a node in the ball at radius r, and of one that is not
  pub distances-inside : (r v y : ℕ) → T (inside (ball n ss es c r) v) → get_or (distances n ss es c r) v y ≡ misses n ss es c r v
  distances-inside r v y t = distances-at r v y true (T_true t) (inside-node n ss es c r v t)

  pub distances-outside : (r v y : ℕ) → v < n → (T (inside (ball n ss es c r) v) → ⊥) → get_or (distances n ss es c r) v y ≡ far
  distances-outside r v y h f = distances-at r v y false (T_false f) h

-- ---- distances

-- The distance from c to v as far as r: x is `far`, and every walk from c to v is longer than r; or x is the distance, which is at most r.
abbrev pub DistanceUpTo : Graph → ℕ → ℕ → ℕ → ℕ → Type 0
DistanceUpTo G c r v x = ((x ≡ far) × ((k : ℕ) → Walk G.Link c v k → r < k)) ⊎ (Distance G c v x × (x ≤ r))

-- there is one such number
pub distance_up_to-unique : (G : Graph) (c r v x y : ℕ) → DistanceUpTo G c r v x → DistanceUpTo G c r v y → x ≡ y
distance_up_to-unique G c r v x y (inl p) (inl q) = p.0 ∙ sym q.0
distance_up_to-unique G c r v x y (inl p) (inr q) = absurd (not-le_of_lt (p.1 y q.0.walk) q.1)
distance_up_to-unique G c r v x y (inr p) (inl q) = absurd (not-le_of_lt (q.1 x p.0.walk) p.1)
distance_up_to-unique G c r v x y (inr p) (inr q) = distance-unique p.0 q.0

module _ {n : ℕ} {ss es : List ℕ} (links : Within n ss es) where
  -- the least radius is the distance
  least-distance : {c v d : ℕ} → Least n ss es c v d → Distance (graph_of n ss es) c v d
  unfolding graph_of
  least-distance {c} {v} {d} p =
      let h : c < n = inside-centre n ss es c d v p.has in
      let first : (k : ℕ) → Walk (HasLink ss es) c v k → d ≤ k = λ k q. p.least k (walk-ball links c h q k (le_refl k)) in
      let (k, l, q) = ball-walk n ss es c d v p.has in
      record { walk = walk-recount (le_antisymm l (first k q)) q; shortest = first }

  -- In the ball at radius r, the distance is the number of misses.
  pub inside-distance : (c r v : ℕ) → T (inside (ball n ss es c r) v) → Distance (graph_of n ss es) c v (misses n ss es c r v) × (misses n ss es c r v ≤ r)
  inside-distance c r v t =
      let p : Least n ss es c v (misses n ss es c r v) = misses-least n ss es c r v t in
      (least-distance p, p.least r t)

  -- The ball at radius r has each node at distance at most r.
  pub distance-inside : (c r v d : ℕ) → c < n → Distance (graph_of n ss es) c v d → d ≤ r → T (inside (ball n ss es c r) v)
  unfolding graph_of
  distance-inside c r v d h p l = walk-ball links c h p.walk r l

  -- A walk to a node outside the ball at radius r is longer than r.
  pub outside-walk : (c r v : ℕ) → v < n → (T (inside (ball n ss es c r) v) → ⊥) → (k : ℕ) → Walk (HasLink ss es) c v k → r < k
  outside-walk c r v h f k p = lt_of_not-le (λ l. f (walk-ball links c (walk-node links (walk-reverse p) h) p r l))

  -- distance at most r and in the ball at radius r are one
  pub in_ball-iff : (c r v : ℕ) → T (inside (ball n ss es c r) v) ↔ InBall (graph_of n ss es) c r v
  unfolding InBall graph_of
  in_ball-iff c r v = (
    λ t. (inside-node n ss es c r v t, (misses n ss es c r v, (inside-distance c r v t).0, (inside-distance c r v t).1)),
    λ (h, (d, p, l)). distance-inside c r v d (walk-node links (walk-reverse p.walk) h) p l,
  )

  -- A distance is below the number of nodes,
  pub distance-below : (c v d : ℕ) → c < n → Distance (graph_of n ss es) c v d → d < n
  unfolding graph_of
  distance-below c v d h p =
      let (k, l, q) = ball-walk n ss es c (n - 1) v (walk-final links c h p.walk (n - 1) (omega arith)) in
      omega (arith, p.shortest k q)

  -- and so is not `far`.
  pub distance-near : (c v d : ℕ) → c < n → n ≤ far → Distance (graph_of n ss es) c v d → d ≢ far
  distance-near c v d h b p e = omega (arith, distance-below c v d h p)

  -- ---- the row of distances

  -- The entry of a node is its distance where the ball at radius r has it,
  inside-entry : (c r v y : ℕ) → T (inside (ball n ss es c r) v) → Distance (graph_of n ss es) c v (get_or (distances n ss es c r) v y) × (get_or (distances n ss es c r) v y ≤ r)
  inside-entry c r v y t = subst (λ x. Distance (graph_of n ss es) c v x × (x ≤ r)) (sym (distances-inside n ss es c r v y t)) (inside-distance c r v t)

  -- and `far` where not.
  pub distances-spec : (c r v y : ℕ) → v < n
      → (T (inside (ball n ss es c r) v) × Distance (graph_of n ss es) c v (get_or (distances n ss es c r) v y) × (get_or (distances n ss es c r) v y ≤ r))
      ⊎ ((T (inside (ball n ss es c r) v) → ⊥) × (get_or (distances n ss es c r) v y ≡ far) × ((k : ℕ) → Walk (HasLink ss es) c v k → r < k))
  distances-spec c r v y h =
      ⊎_elim
      (λ t. inl (t, (inside-entry c r v y t).0, (inside-entry c r v y t).1))
      (λ f. inr (f, distances-outside n ss es c r v y h f, outside-walk c r v h f))
      (decide (inside (ball n ss es c r) v))

  -- So it is the distance as far as r,
  pub distances-up_to : (c r v y : ℕ) → v < n → DistanceUpTo (graph_of n ss es) c r v (get_or (distances n ss es c r) v y)
  unfolding graph_of
  distances-up_to c r v y h = ⊎_elim (λ (t, p, l). inr (p, l)) (λ (f, e, w). inl (e, w)) (distances-spec c r v y h)

  -- and no other row of n entries has that at each node. (A search is proved through this law.)
  pub distances-unique : (c r : ℕ) (xs : List ℕ) → length xs ≡ n → ((v : ℕ) → v < n → DistanceUpTo (graph_of n ss es) c r v (get_or xs v 0)) → xs ≡ distances n ss es c r
  distances-unique c r xs l d =
      ext_get_or 0 xs (distances n ss es c r) (l ∙ sym (length-distances n ss es c r))
      (λ v h. let b : v < n = subst (λ x. v < x) l h in distance_up_to-unique (graph_of n ss es) c r v _ _ (d v b) (distances-up_to c r v 0 b))

  -- The entry of a node is its distance, or 65,535 outside the ball, and never both.
  pub distances-entry : (c r v y : ℕ) → n ≤ far → v < n → DistanceEntry (graph_of n ss es) c r v (get_or (distances n ss es c r) v y)
  unfolding Ball graph_of
  distances-entry c r v y b h =
      let x = get_or (distances n ss es c r) v y in
      ⊎_elim
      (λ (t, p, l).
      record {
        inside = λ d _. (λ e. subst (λ (k : ℕ). Distance (graph_of n ss es) c v k × (k ≤ r)) e (p, l), λ (q, _). distance-unique p q);
        outside = (λ e. absurd (distance-near c v x (inside-centre n ss es c r v t) b p e), λ f. absurd (f ((in_ball-iff c r v).0 t)));
      })
      (λ (f, e, w).
      record {
        inside = λ d ne. (λ q. absurd (ne (sym q ∙ e)), λ (q, l). absurd (not-le_of_lt (longer w d q) l));
        outside = (λ _ m. f ((in_ball-iff c r v).1 m), λ _. e);
      })
      (distances-spec c r v y h)
    where
      longer : ((k : ℕ) → Walk (HasLink ss es) c v k → r < k) → (d : ℕ) → Distance (graph_of n ss es) c v d → r < d
      longer w d q = w d q.walk

  -- a node's entry is `far` exactly when the ball does not have it
  far-outside : (c r v : ℕ) → n ≤ far → v < n → eqb (get_or (distances n ss es c r) v 0) far ≡ not (inside (ball n ss es c r) v)
  far-outside c r v b h =
      let x = inside (ball n ss es c r) v in
      ⊎_elim
      (λ t. ne_eqb _ far (distance-near c v _ (inside-centre n ss es c r v t) b (inside-entry c r v 0 t).0) ∙ sym (ap not {x = x} (T_true t)))
      (λ f. eq-eqb _ far (distances-outside n ss es c r v 0 h f) ∙ sym (ap not {x = x} (T_false f)))
      (decide x)

  -- The ball's row from the row of distances: 0 where the entry is `far`, else 1.
  pub ball-distances : (c r : ℕ) → n ≤ far → ball n ss es c r ≡ tabulate n (λ v. cond (eqb (get_or (distances n ss es c r) v 0) far) 0 1)
  ball-distances c r b =
      is-tabulate n _ (ball n ss es c r) (length-ball n ss es c r)
      (λ v h. ball-entry n ss es c r v h ∙ turned (inside (ball n ss es c r) v) ∙ sym (ap (λ x. cond x 0 1) (far-outside c r v b h)))
    where
      turned : (x : Bool) → ◌≡◌ {A = ℕ} (cond x 1 0) (cond (not x) 0 1)
      turned true = refl
      turned false = refl

-- ---- connected

-- the test says that the ball around node 0 at radius n has every node
connected-inside : (n : ℕ) (ss es : List ℕ) → T (connected n ss es) → (v : ℕ) → v < n → T (inside (ball n ss es zero n) v)
unfolding connected inside
connected-inside n ss es t v h = all-at (λ x. eqb x 1) (ball n ss es zero n) t v (subst (λ x. v < x) (sym (length-ball n ss es zero n)) h)

inside-connected : (n : ℕ) (ss es : List ℕ) → ((v : ℕ) → v < n → T (inside (ball n ss es zero n) v)) → T (connected n ss es)
unfolding connected inside
inside-connected n ss es f = at_all (λ x. eqb x 1) (ball n ss es zero n) (λ v h. f v (subst (λ x. v < x) (length-ball n ss es zero n) h))

-- two nodes are joined through node 0
connected-joins : (n : ℕ) (ss es : List ℕ) → T (connected n ss es) → Connected (graph_of n ss es)
unfolding Connected graph_of
connected-joins n ss es t v w nv nw =
    let (k, _, p) = ball-walk n ss es zero n v (connected-inside n ss es t v nv) in
    let (m, _, q) = ball-walk n ss es zero n w (connected-inside n ss es t w nw) in
    (m + k, walk-append (walk-reverse p) q)

module _ {n : ℕ} {ss es : List ℕ} (links : Within n ss es) where
  -- a walk of any length leads into the ball at radius n
  joins-inside : Connected (graph_of n ss es) → (v w : ℕ) → v < n → w < n → T (inside (ball n ss es v n) w)
  unfolding Connected graph_of
  joins-inside joined v w nv nw = walk-final links v nv (joined v w nv nw).1 n (omega arith)

  -- The test of connectedness is right.
  pub connected-iff : T (connected n ss es) ↔ Connected (graph_of n ss es)
  connected-iff = (connected-joins n ss es, λ joined. inside-connected n ss es (λ v h. joins-inside joined zero v (omega arith) h))

-- ---- radius

-- the largest distance from c, its eccentricity
abbrev eccentricity : ℕ → List ℕ → List ℕ → ℕ → ℕ
eccentricity n ss es c = maximum (distances n ss es c n)

-- the entries of the rows of distances are at most the radius, and one of them is the radius
module _ (n : ℕ) (ss es : List ℕ) where
  pub entry-le-radius : (c v : ℕ) → c < n → get_or (distances n ss es c n) v 0 ≤ radius n ss es
  unfolding radius
  entry-le-radius c v h = le_trans (get_or-le-maximum (distances n ss es c n) v) (rule-le-maximum n (eccentricity n ss es) c h)

  pub entry-radius : zero < n → (c : ℕ) × (v : ℕ) × (c < n) × (v < n) × (get_or (distances n ss es c n) v 0 ≡ radius n ss es)
  unfolding radius
  entry-radius h =
      let (c, hc, e) = rule-maximum-attained n (eccentricity n ss es) h in
      let l = length-distances n ss es c n in
      let (v, hv, d) = maximum-attained (distances n ss es c n) (subst (λ x. zero < x) (sym l) h) in
      (c, v, hc, subst (λ x. v < x) l hv, d ∙ e)

module _ {n : ℕ} {ss es : List ℕ} (links : Within n ss es) where
  -- in a connected circuit each entry is a distance
  distances-all : T (connected n ss es) → (c v : ℕ) → c < n → v < n → Distance (graph_of n ss es) c v (get_or (distances n ss es c n) v 0)
  distances-all t c v hc hv = (inside-entry links c n v 0 (joins-inside links (connected-joins n ss es t) c v hc hv)).0

  -- The computed radius is the largest distance between two nodes.
  pub radius-is : zero < n → T (connected n ss es) → Radius (graph_of n ss es) (radius n ss es)
  unfolding graph_of
  radius-is h t =
      record {
        reached = λ v w nv nw. (_, distances-all t v w nv nw, entry-le-radius n ss es v w nv);
        attained = let (c, v, hc, hv, e) = entry-radius n ss es h in (c, v, hc, hv, subst (Distance (graph_of n ss es) c v) e (distances-all t c v hc hv));
      }

-- ---- document 01's example E1, of the computed radius and of what a radius is

-- T, "0:10, 1:20, 2:30, links 0-1, 1-2", has radius 2.
pub E1-T : radius 3 (0 ∷ 1 ∷ []) (1 ∷ 2 ∷ []) ≡ 2
unfolding radius maximum distances misses ball tabulate inside beside
E1-T = refl

pub E1-T-radius : Radius (graph_of 3 (0 ∷ 1 ∷ []) (1 ∷ 2 ∷ [])) 2
unfolding connected all ball tabulate inside beside
E1-T-radius = subst (Radius (graph_of 3 (0 ∷ 1 ∷ []) (1 ∷ 2 ∷ []))) E1-T (radius-is (within_all 3 (0 ∷ 1 ∷ []) (1 ∷ 2 ∷ []) tt tt) (lit< tt) tt)

-- One part has radius 0.
pub E1-one : radius 1 [] [] ≡ 0
unfolding radius maximum distances misses ball tabulate inside beside
E1-one = refl

pub E1-one-radius : Radius (graph_of 1 [] []) 0
unfolding connected all ball tabulate inside beside
E1-one-radius = subst (Radius (graph_of 1 [] [])) E1-one (radius-is (within_all 1 [] [] tt tt) (lit< tt) tt)
