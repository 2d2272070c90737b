-- The round by masks is the strike, for any list of ways. Assumes nothing.
use Rattle.std.specs.Prelude.{◌≡◌, ◌&&◌, ◌||◌, ◌∷◌, ◌≤◌, ◌<◌}
use Rattle.base_lists.specs.Kit.{◌∙◌, sym, ap, subst, ap₂, Bool, not, List, [], ℕ, lt_of_lt_of_le, not-le_of_lt, T, eqb, eqb→eq, eqb_refl, length, get_or}
use Rattle.base_lists.specs.List.{all, any, all_below, tabulate, Below}
use Rattle.base_lists.proofs.Tests.{T_false, same_test, all-at, at_all, any_at, at-any, all_below-at, at-all_below, unless-at, at-unless}
use Rattle.base_lists.proofs.Below.{all_below-same}
use Rattle.base_lists.proofs.Tables.{get_d_tabulate, tabulate-same}
use Rattle.base_bits.specs.Bits.{bit, number_of, subset_of, union_at}
use Rattle.base_bits.proofs.Digits.{bit-of-zero, bit-above, bit-or}
use Rattle.base_bits.proofs.Numbers.{bit-number-all, number_same, number-wider}
use Rattle.table_row.specs.Problem.{Problem}
use Rattle.table_row.specs.Row.{in_table, table_of, answered, every, supported, strike_of}
use Rattle.table_row.specs.Reading.{TableOf}
use Rattle.table_row.specs.Masks.{listed, mask_of, covered, next_set, StepsWithin}
use Rattle.table_row.proofs.Tests.{every-same}

-- ---- unions and lists

-- part u occurs at some node of a list when it is in the union of their sets
pub bit-union : (t ws : List ℕ) (u : ℕ) → bit (union_at t ws) u ≡ any (λ w. in_table t u w) ws
unfolding union_at any in_table
bit-union t [] u = bit-of-zero u
bit-union t (w ∷ ws) u = bit-or (get_or t w 0) (union_at t ws) u ∙ ap (λ (b : Bool). bit (get_or t w 0) u || b) (bit-union t ws u)

-- an entry of a list whose entries are below n is below n
pub listed_below : (n : ℕ) (xs : List ℕ) (y : ℕ) → Below n xs → T (listed xs y) → y < n
unfolding listed Below
listed_below n xs y l t =
    let (i, h, e) = any_at (λ w. eqb w y) xs t in
    subst (λ (z : ℕ). z < n) (eqb→eq (get_or xs i 0) y e) (l i h)

-- a test of every number below n that is in a list is the test of the list's entries, where these are below n
pub all_listed : (n : ℕ) (xs : List ℕ) (q : ℕ → Bool) → Below n xs → all_below n (λ y. not (listed xs y) || q y) ≡ all q xs
unfolding listed Below
all_listed n xs q below = same_test to from
  where
    here : (i : ℕ) → i < length xs → T (any (λ w. eqb w (get_or xs i 0)) xs)
    here i h = at-any (λ w. eqb w (get_or xs i 0)) xs i h (eqb_refl (get_or xs i 0))

    to : T (all_below n (λ y. not (any (λ w. eqb w y) xs) || q y)) → T (all q xs)
    to t =
        at_all q xs
        (λ i h.
        unless-at (any (λ w. eqb w (get_or xs i 0)) xs) (q (get_or xs i 0))
        (all_below-at n (λ y. not (any (λ w. eqb w y) xs) || q y) t (get_or xs i 0) (below i h)) (here i h))

    from : T (all q xs) → T (all_below n (λ y. not (any (λ w. eqb w y) xs) || q y))
    from t =
        at-all_below n (λ y. not (any (λ w. eqb w y) xs) || q y)
        (λ y h.
        at-unless (any (λ w. eqb w y) xs) (q y)
        (λ s.
        let w = any_at (λ w. eqb w y) xs s in
        subst (λ (z : ℕ). T (q z)) (eqb→eq (get_or xs w.0 0) y w.2) (all-at q xs t w.0 w.1)))

-- ---- one way, one node, one round

module _ {D : Type 0} (p : Problem D) (most : p.parts ≤ 32) (within : StepsWithin p) where
  below_word : (d : D) (u : ℕ) → u < p.parts → Below 32 (p.steps d u)
  unfolding Below
  below_word d u h i l = lt_of_lt_of_le (within.below d u h i l) most

  -- part y is in the mask of part u when u steps to it
  pub mask-bit : (d : D) (u y : ℕ) → u < p.parts → bit (get_or (mask_of p d) u 0) y ≡ listed (p.steps d u) y
  unfolding mask_of
  mask-bit d u y h =
      ap (λ (s : ℕ). bit s y) (get_d_tabulate 32 (λ v. number_of 32 (listed (p.steps d v))) u 0 (lt_of_lt_of_le h most))
      ∙ bit-number-all 32 (listed (p.steps d u)) (λ v k. T_false (λ t. not-le_of_lt (listed_below 32 (p.steps d u) v (below_word d u h) t) k)) y

  -- the mask of part u is within the union over the moves of node v when each step from u has a partner there
  pub covered-answered : (t : List ℕ) (d : D) (u v : ℕ) → u < p.parts → covered p t u v d ≡ answered (p.steps d) (p.moves d) t u v
  unfolding covered subset_of answered
  covered-answered t d u v h =
      all_below-same 32 (λ y. not (bit (get_or (mask_of p d) u 0) y) || bit (union_at t (p.moves d v)) y)
      (λ y. not (listed (p.steps d u) y) || any (λ w. in_table t y w) (p.moves d v))
      (λ y k. ap₂ (λ (a b : Bool). not a || b) (mask-bit d u y h) (bit-union t (p.moves d v) y))
      ∙ all_listed 32 (p.steps d u) (λ y. any (λ w. in_table t y w) (p.moves d v)) (below_word d u h)

  -- the next set of a node
  pub next_row : {t : List ℕ} → TableOf p t → (v : ℕ) → next_set p t v ≡ number_of p.parts (λ u. in_table t u v && supported p t u v)
  unfolding next_set supported in_table
  next_row {t} f v =
      let kept : ℕ → Bool = λ u. bit (get_or t v 0) u && every (covered p t u v) p.ways in
      sym
      (number-wider p.parts 32 kept most
      (λ u h k. ap (λ (x : Bool). x && every (covered p t u v) p.ways) (bit-above p.parts (get_or t v 0) u (f.small v) h)))
      ∙ number_same p.parts kept (λ u. bit (get_or t v 0) u && supported p t u v)
      (λ u h. ap (λ (x : Bool). bit (get_or t v 0) u && x) (every-same _ _ p.ways (λ d. covered-answered t d u v h)))

  -- one round
  pub masks-strike : {t : List ℕ} → TableOf p t → tabulate p.nodes (next_set p t) ≡ strike_of p t
  unfolding strike_of table_of
  masks-strike {t} f = tabulate-same p.nodes (next_set p t) _ (λ v h. next_row f v)
