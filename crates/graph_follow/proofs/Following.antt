-- Laws of following links to nodes by their sets. Assumes nothing.
use Rattle.std.specs.Prelude.{◌≡◌, ◌↔◌, ◌⊎◌, ◌&&◌, ◌∷◌, ◌≤◌, ◌<◌, ◌+◌, ◌^◌}
use Rattle.base_lists.specs.Kit.{◌∙◌, sym, ap, refl, subst, ⊎_elim, inl, inr, Bool, false, true, cond, List, [], ℕ, suc, zero, suc-le-suc, not-suc-le-zero, le_of_suc-le-suc, zero-lt-suc, add-one, T, length, get_or, drop, drop_of_length-le, drop-cons}
use Rattle.base_lists.specs.List.{Occurs, Below}
use Rattle.base_lists.proofs.Tests.{both_true, T_true, T_false, true-T, false-T, at-any_below}
use Rattle.base_lists.proofs.Entries.{below-append}
use Rattle.base_bits.specs.Bits.{bit, number_of, intersects}
use Rattle.base_bits.proofs.Digits.{bit_below, bit-of-zero, same_bits}
use Rattle.base_bits.proofs.Numbers.{bit-number}
use Rattle.graph.specs.Bfs.{SearchState, visit, scan}
use Rattle.graph.specs.Net.{driven, driving, Net}
use Rattle.graph.proofs.Net.{driven-below, driving-below}
use Rattle.graph.proofs.BfsSteps.{scan-append}
use Rattle.graph.proofs.BfsScan.{occurs-append}
use Rattle.graph_follow.specs.Follow.{meeting, look, every_part, nodes_beside}

-- ---- the nodes of a list that the search looks at

module _ (set : ℕ) (sets : List ℕ) where
  -- they are those entries of the list whose sets have a part of `set`
  pub meeting-occurs : (vs : List ℕ) (w : ℕ) → Occurs (meeting set sets vs) w ↔ (Occurs vs w × T (intersects set (get_or sets w 0)))
  unfolding meeting
  meeting-occurs [] w = (λ (i, h, e). absurd (not-suc-le-zero h), λ ((i, h, e), t). absurd (not-suc-le-zero h))
  meeting-occurs (v ∷ vs) w = go (intersects set (get_or sets v 0)) refl (meeting-occurs vs w)
    where
      later : (xs : List ℕ) (x : ℕ) → Occurs xs w → Occurs (x ∷ xs) w
      later xs x (i, h, e) = (suc i, suc-le-suc h, e)

      first : (xs : List ℕ) (x : ℕ) → Occurs (x ∷ xs) w → (x ≡ w) ⊎ Occurs xs w
      first xs x (zero, h, e) = inl e
      first xs x (suc i, h, e) = inr (i, le_of_suc-le-suc h, e)

      go :
          (b : Bool) → intersects set (get_or sets v 0) ≡ b → (Occurs (meeting set sets vs) w ↔ (Occurs vs w × T (intersects set (get_or sets w 0)))) →
          Occurs (cond b (v ∷ meeting set sets vs) (meeting set sets vs)) w ↔ (Occurs (v ∷ vs) w × T (intersects set (get_or sets w 0)))
      go true q r = (
        λ o.
            ⊎_elim
            (λ e. ((zero, zero-lt-suc _, e), subst (λ x. T (intersects set (get_or sets x 0))) e (subst T (sym q) tt)))
            (λ p. let (m, t) = r.0 p in (later vs v m, t))
            (first (meeting set sets vs) v o),
        λ (o, t). ⊎_elim (λ e. (zero, zero-lt-suc _, e)) (λ p. later (meeting set sets vs) v (r.1 (p, t))) (first vs v o),
      )
      go false q r = (
        λ o. let (m, t) = r.0 o in (later vs v m, t),
        λ (o, t).
            ⊎_elim
            (λ e. absurd (subst T (ap (λ x. intersects set (get_or sets x 0)) (sym e) ∙ q) t))
            (λ p. r.1 (p, t))
            (first vs v o),
      )

  pub meeting-below : (n : ℕ) (vs : List ℕ) → Below n vs → Below n (meeting set sets vs)
  unfolding Below
  meeting-below n vs b i h = let ((j, l, e), _) = (meeting-occurs vs _).0 (i, h, refl) in subst (λ x. x < n) e (b j l)

  -- ---- a list of looks is a list of visits

  look-scan : (d : ℕ) (s : SearchState) (v : ℕ) (vs : List ℕ) → scan d s (meeting set sets (v ∷ vs)) ≡ scan d (look d set sets s v) (meeting set sets vs)
  unfolding meeting look scan
  look-scan d s v vs = go (intersects set (get_or sets v 0))
    where
      go : (b : Bool) → scan d s (cond b (v ∷ meeting set sets vs) (meeting set sets vs)) ≡ scan d (cond b (visit d s v) s) (meeting set sets vs)
      go true = refl
      go false = refl

  -- what is left of the list, one look further
  pub follow-next :
      (d : ℕ) (s s' : SearchState) (vs : List ℕ) (i : ℕ) → i < length vs → s' ≡ look d set sets s (get_or vs i 0) →
      scan d s' (meeting set sets (drop (i + 1) vs)) ≡ scan d s (meeting set sets (drop i vs))
  follow-next d s s' vs i h e = rw (e, add-one, drop-cons vs i 0) (sym (look-scan d s (get_or vs i 0) (drop (suc i) vs)))

  pub follow-end : (d : ℕ) (s : SearchState) (vs : List ℕ) (i : ℕ) → length vs ≤ i → scan d s (meeting set sets (drop i vs)) ≡ s
  unfolding scan meeting
  follow-end d s vs i h = rw (drop_of_length-le vs h)

  pub look-taken : (d : ℕ) (s : SearchState) (v : ℕ) → T (intersects set (get_or sets v 0)) → look d set sets s v ≡ visit d s v
  unfolding look
  look-taken d s v t = rw (T_true {b = intersects set (get_or sets v 0)} t)

  pub look-left : (d : ℕ) (s : SearchState) (v : ℕ) → intersects set (get_or sets v 0) ≡ false → look d set sets s v ≡ s
  unfolding look
  look-left d s v e = rw e

-- ---- the nodes beside a node

-- a set that meets no part is empty
any-bit : (u : ℕ) → u < 32 → bit every_part u ≡ true
unfolding number_of
any-bit u h = bit-number 32 (λ v. true) u h

pub meets_any : (x : ℕ) → x < 2 ^ 32 → (x ≡ zero → ⊥) → T (intersects every_part x)
unfolding intersects
meets_any x h some = go (intersects every_part x) refl
  where
    go : (b : Bool) → intersects every_part x ≡ b → T b
    go true e = tt
    go false e =
        absurd
        (some
        (same_bits x zero
        (λ u.
        T_false
        (λ m.
        let l : u < 32 = bit_below 32 x u h m in
        false-T e (at-any_below 32 (λ v. bit every_part v && bit x v) u l (both_true (bit every_part u) (bit x u) (true-T (any-bit u l)) m)))
        ∙ sym (bit-of-zero u))))

module _ (offsets targets sets : List ℕ) (v : ℕ) where
  -- the looks along a node's two stretches are visits of the nodes beside it
  pub beside-scan :
      (s s₁ s₂ : SearchState) (p₁ p₂ : List ℕ) → p₁ ≡ driven offsets targets v → p₂ ≡ driving offsets targets v →
      s₁ ≡ scan 0 s (meeting every_part sets p₁) → s₂ ≡ scan 0 s₁ (meeting every_part sets p₂) → s₂ ≡ scan 0 s (nodes_beside offsets targets sets v)
  unfolding nodes_beside
  beside-scan s s₁ s₂ p₁ p₂ e₁ e₂ f₁ f₂ =
      rw (f₂, f₁, e₁, e₂) (sym (scan-append 0 s (meeting every_part sets (driven offsets targets v)) (meeting every_part sets (driving offsets targets v))))

  -- which are nodes
  pub beside-below : {n : ℕ} → Net n offsets targets → v < n → Below n (nodes_beside offsets targets sets v)
  unfolding nodes_beside
  beside-below {n} net h =
      below-append n _ _ (meeting-below every_part sets n _ (driven-below net v h)) (meeting-below every_part sets n _ (driving-below net v h))

  -- and each neighbour whose set is not empty is among them
  pub beside-occurs : (w : ℕ) → get_or sets w 0 < 2 ^ 32 → (get_or sets w 0 ≡ zero → ⊥) → Occurs (driven offsets targets v) w ⊎ Occurs (driving offsets targets v) w
      → Occurs (nodes_beside offsets targets sets v) w
  unfolding nodes_beside
  beside-occurs w h some o =
      let t = meets_any (get_or sets w 0) h some in
      (occurs-append w (meeting every_part sets (driven offsets targets v)) (meeting every_part sets (driving offsets targets v))).1
      (⊎_elim
      (λ p. inl ((meeting-occurs every_part sets (driven offsets targets v) w).1 (p, t)))
      (λ p. inr ((meeting-occurs every_part sets (driving offsets targets v) w).1 (p, t)))
      o)
