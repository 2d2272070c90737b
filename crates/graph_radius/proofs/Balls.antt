-- The balls as sets: what is in each, the balls at radius 0 and 1, and one round. Assumes nothing.
use Rattle.std.specs.Prelude.{◌≡◌, ◌↔◌, ◌⊎◌, ◌&&◌, ◌||◌, ◌≤◌, ◌<◌, ◌+◌, ◌^◌}
use Rattle.base_lists.specs.Kit.{◌∙◌, sym, ap, refl, subst, ⊎_elim, inl, inr, ⊎_swap, Bool, false, true, or-false, List, [], ℕ, suc, lt_of_lt_of_le, not-le_of_lt, T, eqb, eqb→eq, length, get_or, take, set, length-set, length-take, get_or-set_other, get_or-set_same, get_or-take, arith, eq-eqb, eqb-true, eqb-false}
use native.Mathlib.Decide.{dec_lt}
use lib.Bits.{bit_or}
use Rattle.base_bits.specs.Bits.{bit, number_of}
use Rattle.base_bits.proofs.Digits.{same_bits, bit-or, bit-single}
use Rattle.base_bits.proofs.Numbers.{bit-number-all, number_lt}
use Rattle.base_bits.proofs.Unions.{bit-union_over}
use Rattle.base_lists.specs.List.{any_below, tabulate, Below}
use Rattle.base_lists.proofs.Tables.{length-tabulate, get_d_tabulate, is-tabulate}
use Rattle.base_lists.proofs.Tests.{both_true, both_left, both_right, either_left, either-right, either-cases, T_false, true-T, same_test, any_below-at, at-any_below}
use Rattle.graph.specs.Circuit.{LinkAt, HasLink}
use Rattle.graph.specs.Graph.{Walk, stay, step}
use Rattle.graph.specs.Search.{inside, ball}
use Rattle.graph.proofs.Ball.{Within, inside-node, inside-zero, inside-suc, ball-walk, ball-iff, walk-node}
use Rattle.graph.proofs.Walks.{walk-append, walk-reverse, walk-single}
use Rattle.graph.proofs.RisingLinks.{no-link}
use Rattle.graph_radius.specs.Balls.{balls, with_node, grown}

-- ---- what is in a ball

module _ (n : ℕ) (ss es : List ℕ) where
  pub length-balls : (k : ℕ) → length (balls n ss es k) ≡ n
  unfolding balls
  length-balls k = length-tabulate n _

  entry : (k u : ℕ) → u < n → get_or (balls n ss es k) u 0 ≡ number_of n (inside (ball n ss es u k))
  unfolding balls
  entry k u h = get_d_tabulate n _ u 0 h

  pub ball-below : (k u : ℕ) → u < n → get_or (balls n ss es k) u 0 < 2 ^ n
  ball-below k u h = rw (entry k u h) (number_lt n _)

  pub balls-below : (k : ℕ) (near : List ℕ) → near ≡ balls n ss es k → Below (2 ^ length near) near
  unfolding Below
  balls-below k near e i h =
      let size : length near ≡ n = ap length e ∙ length-balls k in
      rw (size, e) (ball-below k i (rw size at h))

  bit-ball : (k u v : ℕ) → bit (number_of n (inside (ball n ss es u k))) v ≡ inside (ball n ss es u k) v
  bit-ball k u v = bit-number-all n (inside (ball n ss es u k)) (λ w l. T_false (λ t. not-le_of_lt (inside-node n ss es u k w t) l)) v

  pub bit-balls : (k u v : ℕ) → u < n → bit (get_or (balls n ss es k) u 0) v ≡ inside (ball n ss es u k) v
  bit-balls k u v h = ap (λ (x : ℕ). bit x v) (entry k u h) ∙ bit-ball k u v

  -- a table of n sets that have what the balls have
  pub is-balls : (k : ℕ) (sets : List ℕ) → length sets ≡ n
      → ((u v : ℕ) → u < n → bit (get_or sets u 0) v ≡ inside (ball n ss es u k) v) → sets ≡ balls n ss es k
  unfolding balls
  is-balls k sets l e = is-tabulate n _ sets l (λ u h. same_bits _ _ (λ v. e u v h ∙ sym (bit-ball k u v)))

  -- at radius 0 each node alone
  pub balls-zero : tabulate n (λ u. 2 ^ u) ≡ balls n ss es 0
  balls-zero =
      is-balls 0 (tabulate n (λ u. 2 ^ u)) (length-tabulate n _)
      (λ u v h. ap (λ (x : ℕ). bit x v) (get_d_tabulate n (λ w. 2 ^ w) u 0 h) ∙ bit-single u v
      ∙ same_test
      (λ t. let e = eqb→eq v u t in (inside-zero n ss es u v).1 (subst (λ (x : ℕ). x < n) (sym e) h, e))
      (λ t. true-T (eq-eqb v u ((inside-zero n ss es u v).0 t).1)))

-- ---- one round

module _ {n : ℕ} {ss es : List ℕ} (links : Within n ss es) (few : n ≤ 32) where
  -- what is near a node of the ball at radius k around a node near u is in the ball at radius k + 1 around u, and the other way round
  round-to : (k u w v : ℕ) → T (inside (ball n ss es u 1) w) → T (inside (ball n ss es w k) v) → T (inside (ball n ss es u (suc k)) v)
  round-to k u w v a b =
      let (i, p, q) = ball-walk n ss es u 1 w a in
      let (j, p', q') = ball-walk n ss es w k v b in
      (ball-iff links u (suc k) v).1 (inside-node n ss es w k v b, (j + i, omega arith, walk-append q q'))

  abbrev Between : ℕ → ℕ → ℕ → Type 0
  Between k u v = (w : ℕ) × T (inside (ball n ss es u 1) w) × T (inside (ball n ss es w k) v)

  -- the last link of a walk from v to u leaves a node near u
  walk-between : (k u v i : ℕ) → u < n → v < n → i ≤ suc k → Walk (HasLink ss es) v u i → Between k u v
  walk-between k u v i h hv p stay = (u, (ball-iff links u 1 u).1 (h, (0, omega arith, stay)), (ball-iff links u k u).1 (h, (0, omega arith, stay)))
  walk-between k u v i h hv p (step {w} {n = j} q l) =
      (w, (ball-iff links u 1 w).1 (walk-node links q hv, (1, omega arith, walk-single (⊎_swap l))), (ball-iff links w k v).1 (hv, (j, omega arith, walk-reverse q)))

  round-from : (k u v : ℕ) → u < n → T (inside (ball n ss es u (suc k)) v) → Between k u v
  round-from k u v h t = let (i, p, q) = ball-walk n ss es u (suc k) v t in walk-between k u v i h (inside-node n ss es u (suc k) v t) p (walk-reverse q)

  pub grown-balls : (k : ℕ) → grown (balls n ss es 1) (balls n ss es k) ≡ balls n ss es (suc k)
  unfolding grown
  grown-balls k =
      is-balls n ss es (suc k) _ (length-tabulate _ _ ∙ length-balls n ss es 1)
      (λ u v h. ap (λ (x : ℕ). bit x v) (get_d_tabulate _ _ u 0 (rw length-balls h))
      ∙ bit-union_over (balls n ss es k) (get_or (balls n ss es 1) u 0) v
      ∙ same_test (λ t. to u v h (any_below-at 32 (near u v) t)) (λ t. from u v h (round-from k u v h t)))
    where
      near : ℕ → ℕ → ℕ → Bool
      near u v w = bit (get_or (balls n ss es 1) u 0) w && bit (get_or (balls n ss es k) w 0) v

      to : (u v : ℕ) → u < n → (w : ℕ) × (w < 32) × T (near u v w) → T (inside (ball n ss es u (suc k)) v)
      to u v h (w, _, t) =
          let a = subst T (bit-balls n ss es 1 u w h) (both_left (bit (get_or (balls n ss es 1) u 0) w) (bit (get_or (balls n ss es k) w 0) v) t) in
          let b = both_right (bit (get_or (balls n ss es 1) u 0) w) (bit (get_or (balls n ss es k) w 0) v) t in
          round-to k u w v a (subst T (bit-balls n ss es k w v (inside-node n ss es u 1 w a)) b)

      from : (u v : ℕ) → u < n → (w : ℕ) × T (inside (ball n ss es u 1) w) × T (inside (ball n ss es w k) v) → T (any_below 32 (near u v))
      from u v h (w, a, b) =
          let l = inside-node n ss es u 1 w a in
          at-any_below 32 (near u v) w (lt_of_lt_of_le l few)
          (both_true (bit (get_or (balls n ss es 1) u 0) w) (bit (get_or (balls n ss es k) w 0) v)
          (subst T (sym (bit-balls n ss es 1 u w h)) a) (subst T (sym (bit-balls n ss es k w v l)) b))

-- ---- the balls at radius 1, link by link

-- v is u, or a link joins them
abbrev Near : List ℕ → List ℕ → ℕ → ℕ → Type 0
Near ss es u v = (v ≡ u) ⊎ (HasLink ss es v u ⊎ HasLink ss es u v)

near-iff : (n : ℕ) (ss es : List ℕ) (u v : ℕ) → u < n → T (inside (ball n ss es u 1) v) ↔ ((v < n) × Near ss es u v)
near-iff n ss es u v h = (
  λ t.
      let (l, q) = (inside-suc n ss es u 0 v).0 t in
      (l, ⊎_elim (λ a. inl ((inside-zero n ss es u v).0 a).1) (λ (w, j, a). inr (subst (λ (x : ℕ). HasLink ss es v x ⊎ HasLink ss es x v) ((inside-zero n ss es u w).0 a).1 j)) q),
  λ (l, q).
      (inside-suc n ss es u 0 v).1
      (l, ⊎_elim (λ e. inl ((inside-zero n ss es u v).1 (l, e))) (λ j. inr (u, j, (inside-zero n ss es u u).1 (h, refl))) q),
)

-- before the first link: each node alone
pub balls-begin : (n : ℕ) (ss es : List ℕ) → tabulate n (λ u. 2 ^ u) ≡ balls n (take 0 ss) (take 0 es) 1
balls-begin n ss es =
    is-balls n [] [] 1 (tabulate n (λ u. 2 ^ u)) (length-tabulate n _)
    (λ u v h. ap (λ (x : ℕ). bit x v) (get_d_tabulate n (λ w. 2 ^ w) u 0 h) ∙ bit-single u v
    ∙ same_test
    (λ t. let e = eqb→eq v u t in (near-iff n [] [] u v h).1 (subst (λ (x : ℕ). x < n) (sym e) h, inl e))
    (λ t. ⊎_elim (λ e. true-T (eq-eqb v u e)) (λ j. absurd (⊎_elim (no-link v u) (no-link u v) j)) ((near-iff n [] [] u v h).0 t).1))

module _ (ss es : List ℕ) (i : ℕ) (h : i < length ss) (h' : i < length es) where
  abbrev Link : ℕ → ℕ → Type 0
  Link v w = HasLink (take i ss) (take i es) v w

  -- the links up to the i-th, and one more
  more-to : (v w : ℕ) → HasLink (take (i + 1) ss) (take (i + 1) es) v w → Link v w ⊎ ((v ≡ get_or ss i 0) × (w ≡ get_or es i 0))
  unfolding HasLink
  more-to v w (j, l) = go (dec_lt j i)
    where
      inside_both : j < i + 1
      inside_both = let a = l.in_starts in omega (arith, length-take (i + 1) ss)

      start : get_or ss j 0 ≡ v
      start = sym (get_or-take (i + 1) ss j 0 inside_both) ∙ l.start

      end : get_or es j 0 ≡ w
      end = sym (get_or-take (i + 1) es j 0 inside_both) ∙ l.end

      go : Dec (j < i) → ((x : ℕ) × LinkAt (take i ss) (take i es) v w x) ⊎ ((v ≡ get_or ss i 0) × (w ≡ get_or es i 0))
      go (yes b) =
          inl (
            j,
            record {
              in_starts = omega (arith, length-take i ss);
              in_ends = omega (arith, length-take i es);
              start = get_or-take i ss j 0 b ∙ start;
              end = get_or-take i es j 0 b ∙ end;
            },
          )
      go (no b) =
          let e : j ≡ i = omega (arith, inside_both) in
          inr (sym start ∙ ap (λ (x : ℕ). get_or ss x 0) e, sym end ∙ ap (λ (x : ℕ). get_or es x 0) e)

  more-old : (v w : ℕ) → Link v w → HasLink (take (i + 1) ss) (take (i + 1) es) v w
  unfolding HasLink
  more-old v w (j, l) =
      let b : j < i = let a = l.in_starts in omega (arith, length-take i ss) in (
        j,
        record {
          in_starts = omega (arith, length-take (i + 1) ss);
          in_ends = omega (arith, length-take (i + 1) es);
          start = get_or-take (i + 1) ss j 0 (omega arith) ∙ sym (get_or-take i ss j 0 b) ∙ l.start;
          end = get_or-take (i + 1) es j 0 (omega arith) ∙ sym (get_or-take i es j 0 b) ∙ l.end;
        },
      )

  more-new : HasLink (take (i + 1) ss) (take (i + 1) es) (get_or ss i 0) (get_or es i 0)
  unfolding HasLink
  more-new = (
    i,
    record {
      in_starts = omega (arith, length-take (i + 1) ss);
      in_ends = omega (arith, length-take (i + 1) es);
      start = get_or-take (i + 1) ss i 0 (omega arith);
      end = get_or-take (i + 1) es i 0 (omega arith);
    },
  )

-- what `with_node` has
pub length-joined : (sets : List ℕ) (a b : ℕ) → length (with_node sets a b) ≡ length sets
unfolding with_node
length-joined sets a b = length-set sets a _

bit-joined : (sets : List ℕ) (a b u v : ℕ) → a < length sets → bit (get_or (with_node sets a b) u 0) v ≡ bit (get_or sets u 0) v || (eqb u a && eqb v b)
unfolding with_node
bit-joined sets a b u v h = go (eqb u a) refl
  where
    go : (t : Bool) → eqb u a ≡ t → bit (get_or (set sets a (bit_or (get_or sets a 0) (2 ^ b))) u 0) v ≡ bit (get_or sets u 0) v || (t && eqb v b)
    go true q =
        let e : u ≡ a = eqb-true u a q in
        ap (λ (x : ℕ). bit x v) (ap (λ (x : ℕ). get_or (set sets a (bit_or (get_or sets a 0) (2 ^ b))) x 0) e ∙ get_or-set_same sets a _ 0 h)
        ∙ bit-or (get_or sets a 0) (2 ^ b) v
        ∙ rw (bit-single, e)
    go false q = ap (λ (x : ℕ). bit x v) (get_or-set_other sets a u _ 0 (eqb-false u a q)) ∙ sym (or-false (bit (get_or sets u 0) v))

-- one link more: each of its two nodes is put into the other's set
module _ (n : ℕ) (ss es : List ℕ) (i : ℕ) (h : i < length ss) (h' : i < length es) (in_starts : get_or ss i 0 < n) (in_ends : get_or es i 0 < n) where
  abbrev s : ℕ
  s = get_or ss i 0

  abbrev e : ℕ
  e = get_or es i 0

  abbrev old : List ℕ
  old = balls n (take i ss) (take i es) 1

  -- what is in the set of u afterwards: what was, the end where u is the start, the start where u is the end
  abbrev was : ℕ → ℕ → Bool
  was u v = inside (ball n (take i ss) (take i es) u 1) v

  abbrev after : ℕ → ℕ → Bool
  after u v = (was u v || (eqb u s && eqb v e)) || (eqb u e && eqb v s)

  bit-more : (u v : ℕ) → u < n → bit (get_or (with_node (with_node old s e) e s) u 0) v ≡ after u v
  bit-more u v l =
      bit-joined (with_node old s e) e s u v (rw (length-joined, length-balls) in_ends)
      ∙ ap (λ (x : Bool). x || (eqb u e && eqb v s))
      (bit-joined old s e u v (rw length-balls in_starts) ∙ ap (λ (x : Bool). x || (eqb u s && eqb v e)) (bit-balls n (take i ss) (take i es) 1 u v l))

  same-pair : (u v a b : ℕ) → T (eqb u a && eqb v b) → (u ≡ a) × (v ≡ b)
  same-pair u v a b t = (eqb→eq u a (both_left (eqb u a) (eqb v b) t), eqb→eq v b (both_right (eqb u a) (eqb v b) t))

  pair_same : (u v a b : ℕ) → u ≡ a → v ≡ b → T (eqb u a && eqb v b)
  pair_same u v a b p q = both_true (eqb u a) (eqb v b) (true-T (eq-eqb u a p)) (true-T (eq-eqb v b q))

  abbrev Next : ℕ → ℕ → Type 0
  Next u v = (v < n) × Near (take (i + 1) ss) (take (i + 1) es) u v

  near-more : (u v : ℕ) → u < n → T (after u v) → Next u v
  near-more u v l t =
      ⊎_elim (λ a. ⊎_elim kept there (either-cases (was u v) (eqb u s && eqb v e) a)) back
      (either-cases (was u v || (eqb u s && eqb v e)) (eqb u e && eqb v s) t)
    where
      kept : T (was u v) → Next u v
      kept a =
          let (b, q) = (near-iff n (take i ss) (take i es) u v l).0 a in
          (b, ⊎_elim inl (λ j. inr (⊎_elim (λ k. inl (more-old ss es i h h' v u k)) (λ k. inr (more-old ss es i h h' u v k)) j)) q)

      there : T (eqb u s && eqb v e) → Next u v
      there a =
          let (p, q) = same-pair u v s e a in
          (rw q in_ends, inr (inr (rw (p, q) (more-new ss es i h h'))))

      back : T (eqb u e && eqb v s) → Next u v
      back a =
          let (p, q) = same-pair u v e s a in
          (rw q in_starts, inr (inl (rw (p, q) (more-new ss es i h h'))))

  more-near : (u v : ℕ) → u < n → Next u v → T (after u v)
  more-near u v l (b, q) = ⊎_elim (λ p. kept (inl p)) (λ j. ⊎_elim to from j) q
    where
      one : T (was u v || (eqb u s && eqb v e)) → T (after u v)
      one a = either_left (was u v || (eqb u s && eqb v e)) (eqb u e && eqb v s) a

      kept : Near (take i ss) (take i es) u v → T (after u v)
      kept a = one (either_left (was u v) (eqb u s && eqb v e) ((near-iff n (take i ss) (take i es) u v l).1 (b, a)))

      to : HasLink (take (i + 1) ss) (take (i + 1) es) v u → T (after u v)
      to k =
          ⊎_elim (λ a. kept (inr (inl a)))
          (λ (p, p'). either-right (was u v || (eqb u s && eqb v e)) (eqb u e && eqb v s) (pair_same u v e s p' p))
          (more-to ss es i h h' v u k)

      from : HasLink (take (i + 1) ss) (take (i + 1) es) u v → T (after u v)
      from k =
          ⊎_elim (λ a. kept (inr (inr a)))
          (λ (p, p'). one (either-right (was u v) (eqb u s && eqb v e) (pair_same u v s e p p')))
          (more-to ss es i h h' u v k)

  pub balls-more : with_node (with_node old s e) e s ≡ balls n (take (i + 1) ss) (take (i + 1) es) 1
  balls-more =
      is-balls n (take (i + 1) ss) (take (i + 1) es) 1 _ (rw (length-joined, length-joined) (length-balls n (take i ss) (take i es) 1))
      (λ u v l. bit-more u v l
      ∙ same_test
      (λ t. (near-iff n (take (i + 1) ss) (take (i + 1) es) u v l).1 (near-more u v l t))
      (λ t. more-near u v l ((near-iff n (take (i + 1) ss) (take (i + 1) es) u v l).0 t)))
