-- Laws of the parts of a set whose links all have partners: what `surviving` keeps, and the next set of a node. Assumes nothing.
use Rattle.std.specs.Prelude.{◌≡◌, ◌&&◌, ◌∷◌, ◌<◌, ◌^◌}
use Rattle.base_lists.specs.Kit.{◌∙◌, sym, ap, refl, ap₂, Bool, false, true, cond, and-false, List, [], ℕ, suc, zero, T, eqb, get_or, eqb-true}
use lib.Bits.{bit_or, or_zero_r}
use Rattle.std.specs.List.{list_all}
use Rattle.base_lists.specs.List.{all}
use Rattle.base_lists.proofs.Tests.{both_left, both_right, T_true, true-T}
use Rattle.base_bits.specs.Bits.{bit, Subset, subset_of, first_of, without_first, union_at}
use Rattle.base_bits.proofs.Numbers.{number_same}
use Rattle.base_bits.proofs.Passing.{passing-none, passing-subset, passing-again, passing-next}
use Rattle.base_bits.proofs.Tests.{bit_or-assoc, subset-none}
use Rattle.graph.specs.Net.{driven, driving}
use Rattle.table.specs.Prepared.{succ_of, pred_of, Tables}
use Rattle.table_strike.specs.Strike.{survivors, all_empty, strike_node}

module _ (succ pred : List ℕ) (f b : ℕ) where
  stays : ℕ → Bool
  stays u = subset_of (get_or succ u 0) f && subset_of (get_or pred u 0) b

  pub survivors-none : survivors succ pred f b zero ≡ zero
  unfolding survivors stays
  survivors-none = passing-none stays

  pub survivors-subset : (x : ℕ) → Subset (survivors succ pred f b x) x
  unfolding survivors stays
  survivors-subset x = passing-subset stays x

  -- what survived once survives again
  pub survivors-again : (x : ℕ) → survivors succ pred f b (survivors succ pred f b x) ≡ survivors succ pred f b x
  unfolding survivors stays
  survivors-again x = passing-again stays x

  -- One turn of the loop over the parts x that are left: the first of them stays or does not.
  module _ (x : ℕ) (p : zero < x) (h : x < 2 ^ 32) where
    turn : (kept : ℕ) (t : Bool) → stays (first_of x) ≡ t
        → bit_or (bit_or kept (cond t (2 ^ first_of x) zero)) (survivors succ pred f b (without_first x)) ≡ bit_or kept (survivors succ pred f b x)
    unfolding survivors stays
    turn kept t e =
        bit_or-assoc kept (cond t (2 ^ first_of x) zero) (survivors succ pred f b (without_first x))
        ∙ ap (bit_or kept)
        (ap (λ (y : Bool). bit_or (cond y (2 ^ first_of x) zero) (survivors succ pred f b (without_first x))) (sym e) ∙ passing-next stays x p h)

    pub turn-stays : (kept : ℕ) → subset_of (get_or succ (first_of x) 0) f ≡ true → subset_of (get_or pred (first_of x) 0) b ≡ true
        → bit_or (bit_or kept (2 ^ first_of x)) (survivors succ pred f b (without_first x)) ≡ bit_or kept (survivors succ pred f b x)
    unfolding stays
    turn-stays kept d e = turn kept true (rw (d, e))

    turn-goes : (kept : ℕ) → stays (first_of x) ≡ false → bit_or kept (survivors succ pred f b (without_first x)) ≡ bit_or kept (survivors succ pred f b x)
    turn-goes kept e = ap (λ (k : ℕ). bit_or k (survivors succ pred f b (without_first x))) (sym (or_zero_r kept)) ∙ turn kept false e

    pub turn-first : (kept : ℕ) → subset_of (get_or succ (first_of x) 0) f ≡ false
        → bit_or kept (survivors succ pred f b (without_first x)) ≡ bit_or kept (survivors succ pred f b x)
    unfolding stays
    turn-first kept d = turn-goes kept (rw d)

    pub turn-second : (kept : ℕ) → subset_of (get_or pred (first_of x) 0) b ≡ false
        → bit_or kept (survivors succ pred f b (without_first x)) ≡ bit_or kept (survivors succ pred f b x)
    unfolding stays
    turn-second kept e = turn-goes kept (rw (e, and-false))

-- ---- one node

-- where a node has no part, none is left
pub strike-none : (t : Tables) (old : List ℕ) (v : ℕ) → get_or old v 0 ≡ zero → strike_node t old v ≡ zero
unfolding strike_node
strike-none t old v e =
    let f = union_at old (driven t.offsets t.targets v) in
    let b = union_at old (driving t.offsets t.targets v) in
    ap (survivors (succ_of t.masks) (pred_of t.masks) f b) e ∙ survivors-none (succ_of t.masks) (pred_of t.masks) f b

-- ---- masks that ask for nothing

-- std's word for the test
pub list_all-is-all : (p : ℕ → Bool) (xs : List ℕ) → list_all p xs ≡ all p xs
unfolding all
list_all-is-all p [] = refl
list_all-is-all p (x ∷ xs) = ap (λ (b : Bool). p x && b) (list_all-is-all p xs)

-- each of them is empty
empty-at : (masks : List ℕ) → T (all_empty masks) → (u : ℕ) → get_or masks u 0 ≡ 0
unfolding all_empty all
empty-at [] t u = refl
empty-at (m ∷ masks) t zero = eqb-true m 0 (T_true (both_left (eqb m 0) (all (λ m. eqb m 0) masks) t))
empty-at (m ∷ masks) t (suc u) = empty-at masks (both_right (eqb m 0) (all (λ m. eqb m 0) masks) t) u

-- so it does not matter what drives a node, where no part asks for it
survivors-alone : (succ pred : List ℕ) → true ≡ all_empty pred → (f b b' x : ℕ) → survivors succ pred f b x ≡ survivors succ pred f b' x
unfolding survivors
survivors-alone succ pred e f b b' x =
    number_same 32 (λ u. bit x u && (subset_of (get_or succ u 0) f && subset_of (get_or pred u 0) b)) (λ u. bit x u && (subset_of (get_or succ u 0) f && subset_of (get_or pred u 0) b'))
    (λ u h. ap (λ (c : Bool). bit x u && (subset_of (get_or succ u 0) f && c)) (inside u b ∙ sym (inside u b')))
  where
    inside : (u b : ℕ) → subset_of (get_or pred u 0) b ≡ true
    inside u b = ap (λ (m : ℕ). subset_of m b) (empty-at pred (true-T (sym e)) u) ∙ subset-none b

-- the next set of a node, from the two unions over its neighbours, of which the second is left out where nothing is asked for of what drives it
pub strike-unions : (t : Tables) (old : List ℕ) (v : ℕ) {alone : Bool} {f b r : ℕ} → alone ≡ all_empty (pred_of t.masks)
    → f ≡ union_at old (driven t.offsets t.targets v) → b ≡ cond alone 0 (union_at old (driving t.offsets t.targets v))
    → r ≡ survivors (succ_of t.masks) (pred_of t.masks) f b (get_or old v 0) → r ≡ strike_node t old v
unfolding strike_node
strike-unions t old v {alone} a d e q = q ∙ ap₂ next d e ∙ go alone a
  where
    next : ℕ → ℕ → ℕ
    next f b = survivors (succ_of t.masks) (pred_of t.masks) f b (get_or old v 0)

    go : (alone : Bool) → alone ≡ all_empty (pred_of t.masks) →
        next (union_at old (driven t.offsets t.targets v)) (cond alone 0 (union_at old (driving t.offsets t.targets v)))
        ≡ next (union_at old (driven t.offsets t.targets v)) (union_at old (driving t.offsets t.targets v))
    go true h = survivors-alone (succ_of t.masks) (pred_of t.masks) h (union_at old (driven t.offsets t.targets v)) 0 (union_at old (driving t.offsets t.targets v)) (get_or old v 0)
    go false h = refl
