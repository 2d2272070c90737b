-- The tests of the bytes, as the loops make them: what was seen at every index, or at one. Assumes nothing.
use Rattle.std.specs.Prelude.{◌↔◌, IsTrue, EachIndex, ◌≡◌, ◌&&◌, ◌||◌, ◌≤◌, ◌<◌}
use Rattle.base_lists.specs.Kit.{◌∙◌, sym, ap, refl, Bool, false, true, cond, not, List, ℕ, T, eqb, length, get_or, arith, eq-eqb, ne_eqb, eqb-true}
use Rattle.base_lists.specs.List.{all_below}
use Rattle.base_lists.proofs.Below.{all_below-same}
use Rattle.base_lists.proofs.Tables.{get_d_tabulate}
use Rattle.base_lists.proofs.Tests.{same_test, T_true, T_false, true-T, false-T, all_below-at, at-all_below, unless-at, at-unless}
use Rattle.base_bits.specs.Bits.{intersects}
use Rattle.graph.specs.Search.{far, inside}
use Rattle.graph.proofs.Ball.{inside-below}
use Rattle.place.specs.Bytes.{unless_far, bytes_of_nodes, driven_by, link_byte, bytes_of_links}
use Rattle.proposal_marks.specs.Link.{link_placed}
use Rattle.proposal.specs.Check.{bits, ends_marked, in_row}
use Rattle.proposal.proofs.Perfect.{bits_at, at_bits, row_at, at_row}

-- a byte is 1
pub one_inside : (row : List ℕ) (v : ℕ) → get_or row v 0 ≡ 1 → T (inside row v)
unfolding inside
one_inside row v e = true-T (eq-eqb (get_or row v 0) 1 e)

pub inside_one : (row : List ℕ) (v : ℕ) → T (inside row v) → get_or row v 0 ≡ 1
unfolding inside
inside_one row v t = eqb-true (get_or row v 0) 1 (T_true {b = eqb (get_or row v 0) 1} t)

-- ---- every byte is 0 or 1

pub bits-same : (bytes : List ℕ) (b : Bool) → (IsTrue b ↔ EachIndex bytes (λ k. get_or bytes k 0 ≤ 1)) → b ≡ bits bytes
bits-same bytes b f = same_test (λ t. at_bits bytes (f.0 (T_true t))) (λ t. true-T (f.1 (bits_at bytes t)))

-- ---- every marked link has both its ends marked

module _ (starts ends nodes links : List ℕ) where
  abbrev pub both-in : ℕ → Bool
  both-in i = inside nodes (get_or starts i 0) && inside nodes (get_or ends i 0)

  abbrev pub EndsAt : ℕ → Type 0
  EndsAt i = get_or links i 0 ≡ 1 → both-in i ≡ true

  pub ends-true : ((i : ℕ) → i < length links → EndsAt i) → true ≡ ends_marked starts ends nodes links
  unfolding ends_marked
  ends-true f =
      sym (T_true (at-all_below (length links) (λ i. not (inside links i) || both-in i)
      (λ i h. at-unless (inside links i) (both-in i) (λ m. true-T (f i h (inside_one links i m))))))

  pub ends-false : (i : ℕ) → i < length links → get_or links i 0 ≡ 1 → both-in i ≡ false → false ≡ ends_marked starts ends nodes links
  unfolding ends_marked
  ends-false i h o e =
      sym (T_false (λ t. false-T e
      (unless-at (inside links i) (both-in i) (all_below-at (length links) (λ i. not (inside links i) || both-in i) t i h) (one_inside links i o))))

-- ---- every marked node was reached

-- a byte that is made from an entry is 1 where the entry is not `far`
unless-one : (d x : ℕ) → (d ≡ far → ⊥) → unless_far d x ≡ x
unless-one d x f = rw (ne_eqb d far f)

one-unless : (d x : ℕ) → unless_far d x ≡ 1 → d ≡ far → ⊥
one-unless d x e f = let z : ◌≡◌ {A = ℕ} 0 1 = sym (rw (eq-eqb d far f)) ∙ e in omega arith

module _ (dist nodes : List ℕ) (long : length nodes ≡ length dist) where
  abbrev pub ReachedAt : ℕ → Type 0
  ReachedAt v = get_or nodes v 0 ≡ 1 → get_or dist v 0 ≡ far → ⊥

  entry : (v : ℕ) → v < length nodes → get_or (bytes_of_nodes dist) v 0 ≡ unless_far (get_or dist v 0) 1
  unfolding bytes_of_nodes
  entry v h = get_d_tabulate (length dist) _ v 0 (rw (← long) h)

  pub row-true : ((v : ℕ) → v < length nodes → ReachedAt v) → true ≡ in_row (bytes_of_nodes dist) nodes
  row-true f =
      sym (T_true (at_row (bytes_of_nodes dist) nodes (λ v m.
      let h = inside-below nodes v m in
      one_inside (bytes_of_nodes dist) v (entry v h ∙ unless-one (get_or dist v 0) 1 (f v h (inside_one nodes v m))))))

  pub row-false : (v : ℕ) → v < length nodes → (ReachedAt v → ⊥) → false ≡ in_row (bytes_of_nodes dist) nodes
  row-false v h n =
      sym (T_false (λ t. n (λ o.
      one-unless (get_or dist v 0) 1 (sym (entry v h) ∙ inside_one (bytes_of_nodes dist) v (row_at (bytes_of_nodes dist) nodes t v (one_inside nodes v o))))))

-- ---- every link is in the place

module _ (starts ends succ dist sets : List ℕ) where
  abbrev pub placed_at : ℕ → Bool
  placed_at i = link_placed succ dist sets (get_or starts i 0) (get_or ends i 0)

  -- the byte of a link is made from the test
  byte : (i : ℕ) → i < length starts → inside (bytes_of_links starts ends succ dist sets) i ≡ placed_at i
  unfolding bytes_of_links link_byte link_placed inside
  byte i h =
      ap (λ (b : ℕ). eqb b 1) (get_d_tabulate (length starts) (link_byte starts ends succ dist sets) i 0 h)
      ∙ go (eqb (get_or dist (get_or starts i 0) 0) far) (intersects (driven_by succ sets (get_or starts i 0)) (get_or sets (get_or ends i 0) 0))
    where
      go : (f m : Bool) → eqb (cond f 0 (cond m 1 0)) 1 ≡ not f && m
      go true m = refl
      go false true = refl
      go false false = refl

  pub placed-all : all_below (length starts) placed_at ≡ all_below (length starts) (inside (bytes_of_links starts ends succ dist sets))
  placed-all = all_below-same (length starts) _ _ (λ i h. sym (byte i h))

  pub placed-true : ((i : ℕ) → i < length starts → placed_at i ≡ true) → true ≡ all_below (length starts) (inside (bytes_of_links starts ends succ dist sets))
  placed-true f = sym (T_true (at-all_below (length starts) placed_at (λ i h. true-T (f i h)))) ∙ placed-all

  pub placed-false : (i : ℕ) → i < length starts → placed_at i ≡ false → false ≡ all_below (length starts) (inside (bytes_of_links starts ends succ dist sets))
  placed-false i h e = sym (T_false (λ t. false-T e (all_below-at (length starts) placed_at t i h))) ∙ placed-all
