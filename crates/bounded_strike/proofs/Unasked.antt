-- Where no mask asks for anything, every set is kept. Assumes nothing.
use Rattle.std.specs.Prelude.{◌≡◌, ◌&&◌, ◌<◌}
use Rattle.base_lists.specs.Kit.{◌∙◌, sym, ap, refl, Bool, true, and-true, List, ℕ, eqb, eqb-true, length, get_or, arith}
use Rattle.base_lists.specs.List.{tabulate}
use Rattle.base_lists.proofs.Tests.{T_true, true-T, all-at}
use Rattle.base_lists.proofs.Tables.{is-tabulate}
use Rattle.base_bits.specs.Bits.{bit, subset_of, Words}
use Rattle.base_bits.proofs.Numbers.{number_same, number_bit}
use Rattle.base_bits.proofs.Tests.{subset-none}
use Rattle.table_strike.specs.Strike.{all_empty}
use Rattle.bounded_layer.specs.Pass.{kept_within, pass_table}

-- whatever the unions that the masks are compared with
pub kept-all : (masks new : List ℕ) (f : ℕ → ℕ) → ((u : ℕ) → u < 32 → get_or masks u 0 ≡ 0) → Words new → new ≡ tabulate (length new) (λ v. kept_within masks (f v) (get_or new v 0))
unfolding kept_within
kept-all masks new f none small =
    is-tabulate (length new) _ new refl
    (λ v k.
    sym
    (number_same 32 _ (bit (get_or new v 0))
    (λ u l. ap (λ (x : ℕ). bit (get_or new v 0) u && subset_of x (f v)) (none u l) ∙ ap (λ (b : Bool). bit (get_or new v 0) u && b) (subset-none _) ∙ and-true _)
    ∙ number_bit 32 (get_or new v 0) (small v)))

-- so a pass need not be made
pub pass-unasked : (near : ℕ → List ℕ) (masks layer new : List ℕ) → length masks ≡ 32 → all_empty masks ≡ true → Words new → new ≡ pass_table near masks layer new
unfolding pass_table all_empty
pass-unasked near masks layer new long e =
    kept-all masks new _ (λ u l. eqb-true _ _ (T_true (all-at (λ m. eqb m 0) masks (true-T e) u (omega (arith, long)))))
