-- A link of the board is tested by whole sets: it matches where some part of its end's set is driven by some part of its start's.
-- Assumes nothing.
use Rattle.std.specs.Prelude.{◌≡◌, ◌↔◌, ◌&&◌, ◌<◌, ◌^◌}
use Rattle.base_lists.specs.Kit.{◌∙◌, sym, ap, subst, Bool, List, ℕ, T, eqb, eqb→eq, eqb_refl, length, get_or, get_or-eq_default, arith}
use native.Mathlib.Decide.{dec_lt}
use Rattle.base_lists.proofs.Tests.{both_true, both_left, both_right, false-T, same_test, any_below-at, at-any_below}
use Rattle.base_lists.proofs.Tables.{get_d_tabulate}
use Rattle.base_bits.specs.Bits.{bit, intersects, union_over}
use Rattle.base_bits.proofs.Digits.{bit-of-zero, bit_below}
use Rattle.base_bits.proofs.Numbers.{bit-number}
use Rattle.base_bits.proofs.Tests.{intersects-at}
use Rattle.base_bits.proofs.Unions.{bit-union_over}
use Rattle.graph.specs.Circuit.{Circuit, HasLink}
use Rattle.graph.specs.Neighbours.{select}
use Rattle.graph.proofs.Groups.{link-swap}
use Rattle.table.specs.Fill.{listed}
use Rattle.table.specs.Row.{in_table}
use Rattle.table.specs.Prepared.{masks_of}
use Rattle.table.proofs.Answers.{any-select}
use Rattle.table.proofs.PreparedMasks.{length-masks}
use Rattle.place.specs.Match.{matches}
use Rattle.place.proofs.Links.{matches-iff}

-- ---- the sets of the parts that each part drives

-- masks[u] is the set of the values that stand beside the key u: the parts that u drives (keys the starts), or those that drive u (keys the
-- ends). Sets have parts below 32.
pub record MaskTable (keys values masks : List ℕ) : Type 0 where
  pub holds : (u x : ℕ) → u < 32 → x < 32 → T (bit (get_or masks u 0) x) ↔ HasLink keys values u x

-- the masks that the table crate makes are such tables, where all keys are below n
module _ (n : ℕ) (keys values : List ℕ) where
  mask-bit : (u x : ℕ) → u < n → x < 32 → bit (get_or (masks_of n keys values) u 0) x ≡ listed (select keys values u) x
  unfolding masks_of
  mask-bit u x h l = ap (λ m. bit m x) (get_d_tabulate n _ u 0 h) ∙ bit-number 32 (listed (select keys values u)) x l

  mask-past : (u x : ℕ) → (u < n → ⊥) → T (bit (get_or (masks_of n keys values) u 0) x) → ⊥
  mask-past u x f =
      false-T (ap (λ m. bit m x) (get_or-eq_default (masks_of n keys values) 0 (omega (arith, length-masks n keys values))) ∙ bit-of-zero x)

  pub mask-table : ((u x : ℕ) → HasLink keys values u x → u < n) → MaskTable keys values (masks_of n keys values)
  unfolding listed
  mask-table keyed = record { holds = λ u x h l. (to u x l (dec_lt u n), from u x l) }
    where
      to : (u x : ℕ) → x < 32 → Dec (u < n) → T (bit (get_or (masks_of n keys values) u 0) x) → HasLink keys values u x
      to u x l (yes h) t =
          let (y, m, e) = (any-select (λ y. eqb y x) keys values u).0 (subst T (mask-bit u x h l) t) in
          subst (HasLink keys values u) (eqb→eq y x e) m
      to u x l (no f) t = absurd (mask-past u x f t)

      from : (u x : ℕ) → x < 32 → HasLink keys values u x → T (bit (get_or (masks_of n keys values) u 0) x)
      from u x l m = subst T (sym (mask-bit u x (keyed u x m) l)) ((any-select (λ y. eqb y x) keys values u).1 (x, m, eqb_refl x))

-- ---- the test of a link by whole sets

-- the union of the masks of a's parts has a part of b: some part of a stands beside some part of b
union-meets :
    {keys values masks : List ℕ} → MaskTable keys values masks → (a b : ℕ) → a < 2 ^ 32 → b < 2 ^ 32 →
    T (intersects (union_over masks a) b) ↔ ((u : ℕ) × (u' : ℕ) × HasLink keys values u u' × T (bit a u) × T (bit b u'))
unfolding intersects
union-meets {masks = masks} table a b ha hb = (
  λ t.
      let (u', s, s') = intersects-at (union_over masks a) b t in
      let (u, h, m) = any_below-at 32 (driving u') (subst T (bit-union_over masks a u') s) in (
        u,
        u',
        (table.holds u u' h (bit_below 32 b u' hb s')).0 (both_right (bit a u) (bit (get_or masks u 0) u') m),
        both_left (bit a u) (bit (get_or masks u 0) u') m,
        s',
      ),
  λ (u, u', l, s, s').
      let h : u < 32 = bit_below 32 a u ha s in
      let h' : u' < 32 = bit_below 32 b u' hb s' in
      at-any_below 32 (λ x. bit (union_over masks a) x && bit b x) u' h'
      (both_true (bit (union_over masks a) u') (bit b u')
      (subst T (sym (bit-union_over masks a u'))
      (at-any_below 32 (driving u') u h (both_true (bit a u) (bit (get_or masks u 0) u') s ((table.holds u u' h h').1 l))))
      s'),
)
  where
    driving : ℕ → ℕ → Bool
    driving u' u = bit a u && bit (get_or masks u 0) u'

module _ (pattern : Circuit) (parallel : length pattern.starts ≡ length pattern.ends) (t : List ℕ) (small : (v : ℕ) → get_or t v 0 < 2 ^ 32) where
  -- What a link's start drives has a part of its end,
  pub matches-forward :
      {masks : List ℕ} → MaskTable pattern.starts pattern.ends masks → (v v' : ℕ) →
      matches pattern t v v' ≡ intersects (union_over masks (get_or t v 0)) (get_or t v' 0)
  unfolding in_table
  matches-forward table v v' =
      let means = matches-iff pattern parallel t v v' in
      let meets = union-meets table (get_or t v 0) (get_or t v' 0) (small v) (small v') in
      same_test (λ m. meets.1 (means.0 m)) (λ m. means.1 (meets.0 m))

  -- or what drives its end has a part of its start: so a link is tested from whichever of its nodes the search stands at.
  pub matches-backward :
      {masks : List ℕ} → MaskTable pattern.ends pattern.starts masks → (v v' : ℕ) →
      matches pattern t v v' ≡ intersects (union_over masks (get_or t v' 0)) (get_or t v 0)
  unfolding in_table HasLink
  matches-backward table v v' =
      let means = matches-iff pattern parallel t v v' in
      let meets = union-meets table (get_or t v' 0) (get_or t v 0) (small v') (small v) in
      same_test
      (λ m. let (u, u', (i, l), s, s') = means.0 m in meets.1 (u', u, (i, link-swap _ _ u u' i l), s', s))
      (λ m. let (u', u, (i, l), s', s) = meets.0 m in means.1 (u, u', (i, link-swap _ _ u' u i l), s, s'))
