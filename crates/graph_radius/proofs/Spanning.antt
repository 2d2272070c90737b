-- The radius by balls: it is the first radius at which every ball has every node, and `far` where there is none; and a circuit is connected
-- exactly when its radius is not `far`. Assumes nothing.
use Rattle.std.specs.Prelude.{◌≡◌, ◌≢◌, ◌≤◌, ◌<◌, ◌+◌, ◌^◌}
use Rattle.base_lists.specs.Kit.{◌∙◌, sym, ap, refl, subst, ap₂, ⊎_elim, false, true, not, List, ℕ, suc, zero, not-suc-le-zero, le_of_suc-le-suc, le_trans, le_of_eq, eq-or-lt_of_le, le_antisymm, pow-suc, add-one, T, eqb, ltb, eqb→eq, not_T, T_not, length, arith, eq-eqb}
use native.Mathlib.Decide.{dec_lt}
use Rattle.base_bits.specs.Bits.{bit, number_of}
use Rattle.base_bits.proofs.Digits.{same-bits-below}
use Rattle.base_bits.proofs.Numbers.{bit-number, number_lt}
use Rattle.base_lists.specs.List.{all, tabulate, maximum}
use Rattle.base_lists.proofs.Tests.{T_true, true-T, false-T, all-at, at_all, same_test, decide}
use Rattle.graph.specs.Circuit.{graph_of}
use Rattle.graph.specs.Graph.{Connected}
use Rattle.graph.specs.Search.{far, inside, ball, connected, radius}
use Rattle.graph.proofs.Ball.{Within, within_all, ball-walk}
use Rattle.graph.proofs.Distance.{distances-spec, inside-distance, distance-inside, distance-near, connected-iff, radius-is, entry-le-radius, entry-radius}
use Rattle.graph.proofs.Walks.{distance-unique}
use Rattle.graph_radius.specs.Balls.{balls, every_node, spanning, grown, BallsBegun, FindsRadius}
use Rattle.graph_radius.proofs.Balls.{length-balls, ball-below, bit-balls, balls-zero, grown-balls}

-- ---- the set of all nodes, and tables of it

pub every-node : (n : ℕ) → every_node n + 1 ≡ 2 ^ n
unfolding every_node number_of
every-node zero = refl
every-node (suc n) = rw pow-suc (omega (arith, every-node n))

-- ---- every ball has every node

abbrev Everywhere : ℕ → List ℕ → List ℕ → ℕ → Type 0
Everywhere n ss es k = (u v : ℕ) → u < n → v < n → T (inside (ball n ss es u k) v)

module _ (n : ℕ) (ss es : List ℕ) (k : ℕ) where
  spanning-all : T (spanning (every_node n) (balls n ss es k)) → Everywhere n ss es k
  unfolding spanning every_node
  spanning-all t u v hu hv =
      let e = eqb→eq _ _ (all-at (λ x. eqb x (number_of n (λ _. true))) (balls n ss es k) t u (rw length-balls hu)) in
      subst T (bit-balls n ss es k u v hu) (true-T (ap (λ (x : ℕ). bit x v) e ∙ bit-number n (λ _. true) v hv))

  all-spanning : Everywhere n ss es k → T (spanning (every_node n) (balls n ss es k))
  unfolding spanning every_node
  all-spanning f =
      at_all (λ x. eqb x (number_of n (λ _. true))) (balls n ss es k)
      (λ u l.
      let h : u < n = rw length-balls at l in
      true-T
      (eq-eqb _ _
      (same-bits-below n _ _ (ball-below n ss es k u h) (number_lt n (λ _. true))
      (λ v hv. bit-balls n ss es k u v h ∙ T_true (f u v h hv) ∙ sym (bit-number n (λ _. true) v hv)))))

-- ---- the radius and `far`

none-zero : (n : ℕ) (ss es : List ℕ) → n ≡ zero → radius n ss es ≡ zero
unfolding radius maximum tabulate
none-zero n ss es e = subst (λ (m : ℕ). radius m ss es ≡ zero) (sym e) refl

module _ {n : ℕ} {ss es : List ℕ} (links : Within n ss es) (few : n ≤ far) where
  radius-le-far : zero < n → radius n ss es ≤ far
  radius-le-far h =
      let (c, v, hc, hv, e) = entry-radius n ss es h in
      ⊎_elim
      (λ (t, d, l). omega (arith, e))
      (λ (f, d, w). omega (arith, e, d))
      (distances-spec links c n v 0 hv)

  -- a radius that is not `far` is one at which every ball has every node
  near-everywhere : zero < n → radius n ss es ≢ far → Everywhere n ss es n
  near-everywhere h f u v hu hv =
      ⊎_elim
      (λ (t, _, _). t)
      (λ (_, e, _). absurd (f (le_antisymm (radius-le-far h) (le_trans (le_of_eq (sym e)) (entry-le-radius n ss es u v hu)))))
      (distances-spec links u n v 0 hv)

  everywhere-connected : (k : ℕ) → Everywhere n ss es k → T (connected n ss es)
  unfolding Connected graph_of
  everywhere-connected k f = (connected-iff links).1 (λ v w hv hw. let (i, _, p) = ball-walk n ss es v k w (f v w hv hw) in (i, p))

  connected-near : zero < n → T (connected n ss es) → radius n ss es ≢ far
  unfolding graph_of
  connected-near h t = let (v, w, hv, hw, d) = (radius-is links h t).attained in distance-near links v w _ hv few d

  -- One number says both: a circuit that has a node is connected exactly when its radius is not `far`.
  pub connected-radius : zero < n → connected n ss es ≡ not (eqb (radius n ss es) far)
  connected-radius h =
      same_test
      (λ t. not_T (eqb (radius n ss es) far) (λ e. connected-near h t (eqb→eq _ _ e)))
      (λ t. everywhere-connected n (near-everywhere h (λ e. T_not (eqb (radius n ss es) far) t (true-T (eq-eqb _ _ e)))))

  -- No radius up to n at which every ball has every node: it is `far`.
  pub radius-far : (T (spanning (every_node n) (balls n ss es n)) → ⊥) → far ≡ radius n ss es
  radius-far f =
      ⊎_elim
      (λ t. sym (eqb→eq _ _ t))
      (λ g. absurd (f (all-spanning n ss es n (λ u v hu hv. near-everywhere (omega arith) (λ e. g (true-T (eq-eqb _ _ e))) u v hu hv))))
      (decide (eqb (radius n ss es) far))

  -- The first radius at which every ball has every node is the radius.
  pub radius-found : (k : ℕ) → T (spanning (every_node n) (balls n ss es k))
      → ((j : ℕ) → j < k → T (spanning (every_node n) (balls n ss es j)) → ⊥) → k ≡ radius n ss es
  unfolding graph_of
  radius-found k t none = go (dec_lt zero n)
    where
      all : Everywhere n ss es k
      all = spanning-all n ss es k t

      no_less : (j : ℕ) → Everywhere n ss es j → k ≤ j
      no_less j f = go' (dec_lt j k)
        where
          go' : Dec (j < k) → k ≤ j
          go' (yes l) = absurd (none j l (all-spanning n ss es j f))
          go' (no l) = omega arith

      go : Dec (zero < n) → k ≡ radius n ss es
      go (no f) =
          let e : n ≡ zero = omega arith in
          let a : k ≤ zero = no_less zero (λ u v hu hv. absurd (omega arith)) in
          omega (arith, none-zero n ss es e)
      go (yes h) =
          let r = radius-is links h (everywhere-connected k all) in
          let (v, w, hv, hw, d) = r.attained in
          let (q, l) = inside-distance links v k w (all v w hv hw) in
          le_antisymm
          (no_less (radius n ss es) (λ a b ha hb. let (c, p, m) = r.reached a b ha hb in distance-inside links a (radius n ss es) b c ha p m))
          (le_trans (le_of_eq (distance-unique d q)) l)

-- ---- round after round

-- after k rounds the table has the balls at radius k, and at no smaller radius has every ball every node
unfoldable pub Reached : List ℕ → List ℕ → List ℕ → ℕ → Type 0
Reached near first sets k =
    (ss es : List ℕ) → BallsBegun ss es near first
    → (sets ≡ balls (length near) ss es k) × ((j : ℕ) → j < k → T (spanning (every_node (length near)) (balls (length near) ss es j)) → ⊥)

module _ (near first : List ℕ) where
  pub reached-first : Reached near first first 0
  unfolding Reached
  reached-first ss es b = (b.zeros, λ j h. absurd (not-suc-le-zero h))

  module _ (few : length near ≤ 32) where
    pub reached-next : (sets : List ℕ) (k : ℕ) → Reached near first sets k → spanning (every_node (length near)) sets ≡ false → Reached near first (grown near sets) (k + 1)
    unfolding Reached
    reached-next sets k r e ss es b =
        let (q, none) = r ss es b in (
          ap₂ grown b.ones q ∙ grown-balls (within_all (length near) ss es b.in_starts b.in_ends) few k ∙ ap (balls (length near) ss es) (sym (add-one k)),
          λ j h t. ⊎_elim (λ s. false-T e (subst (λ (x : List ℕ). T (spanning (every_node (length near)) x)) (ap (balls (length near) ss es) s ∙ sym q) t)) (λ l. none j l t) (eq-or-lt_of_le (le_of_suc-le-suc (rw add-one at h))),
        )

    pub reached-found : (sets : List ℕ) (k : ℕ) → Reached near first sets k → spanning (every_node (length near)) sets ≡ true → FindsRadius near first k
    unfolding Reached FindsRadius
    reached-found sets k r e ss es b =
        let (q, none) = r ss es b in
        radius-found (within_all (length near) ss es b.in_starts b.in_ends) (omega arith) k (true-T (ap (spanning (every_node (length near))) (sym q) ∙ e)) none

    pub reached-far : (sets : List ℕ) (k : ℕ) → Reached near first sets k → length near < k → FindsRadius near first far
    unfolding Reached FindsRadius
    reached-far sets k r h ss es b =
        radius-far (within_all (length near) ss es b.in_starts b.in_ends) (omega arith) ((r ss es b).1 (length near) h)

-- what is found is the radius of the circuit that the tables were made for
pub finds-radius : (n m r : ℕ) (ss es near sets : List ℕ) → T (all (λ v. ltb v n) ss) → T (all (λ v. ltb v n) es) → near ≡ balls n ss es 1
    → sets ≡ tabulate m (λ u. 2 ^ u) → m ≡ n → FindsRadius near sets r → r ≡ radius n ss es
unfolding FindsRadius
finds-radius n m r ss es near sets s e p q same f =
    let size : length near ≡ n = ap length p ∙ length-balls n ss es 1 in
    subst (λ (k : ℕ). r ≡ radius k ss es) size
    (f ss es
    (record {
      in_starts = rw size s;
      in_ends = rw size e;
      ones = subst (λ (k : ℕ). near ≡ balls k ss es 1) (sym size) p;
      zeros = subst (λ (k : ℕ). sets ≡ balls k ss es 0) (sym size) (q ∙ ap (λ (k : ℕ). tabulate k (λ u. 2 ^ u)) same ∙ balls-zero n ss es);
    }))
