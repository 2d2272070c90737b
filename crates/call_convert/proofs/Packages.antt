-- Packages other than 0, and whether an edition loses them. Assumes nothing.
use Rattle.std.specs.Prelude.{◌≡◌, ◌≢◌, ◌↔◌, ◌<◌, IsTrue, SomeIndex}
use Rattle.base_lists.specs.Kit.{sym, refl, Bool, subst, ⊎_elim, false, true, not, List, ℕ, T, eqb, eqb→eq, length, get_or, get_or-eq_default, arith, not_T}
use native.Mathlib.Decide.{dec_lt}
use Rattle.std.proofs.lemmas.Bool.{false≢true}
use Rattle.base_lists.proofs.Tests.{T_true, T_false, false-T, decide, eq-or-not, any_at, at-any}
use Rattle.file_format.specs.declared.Edition.{Edition}
use Rattle.file_format.specs.declared.Edition.TheVariants.{First, Second}
use Rattle.file_format.specs.Refusals.{lost_package}

-- the first edition loses one that is other than 0
pub lost-some : (ps : List ℕ) (v : ℕ) → v < length ps → (get_or ps v 0 ≡ 0 → ⊥) → lost_package First ps ≡ true
unfolding lost_package
lost-some ps v h other = T_true (at-any (λ p. not (eqb p 0)) ps v h (not_T (eqb (get_or ps v 0) 0) (λ t. other (eqb→eq (get_or ps v 0) 0 t))))

-- where it loses none, they are all 0
pub lost-none : (ps : List ℕ) → lost_package First ps ≡ false → (v : ℕ) → get_or ps v 0 ≡ 0
unfolding lost_package
lost-none ps e v = go (dec_lt v (length ps))
  where
    go : Dec (v < length ps) → get_or ps v 0 ≡ 0
    go (no h) = get_or-eq_default ps 0 {n = v} (omega arith)
    go (yes h) =
        ⊎_elim (λ t. eqb→eq (get_or ps v 0) 0 t)
        (λ f. absurd (false-T e (at-any (λ p. not (eqb p 0)) ps v h (not_T (eqb (get_or ps v 0) 0) f))))
        (decide (eqb (get_or ps v 0) 0))

-- the other way round
pub none-lost : (to : Edition) (ps : List ℕ) → ((v : ℕ) → v < length ps → get_or ps v 0 ≡ 0) → lost_package to ps ≡ false
unfolding lost_package
none-lost Second ps zero = refl
none-lost First ps zero = T_false (λ t. let (v, h, n) = any_at (λ p. not (eqb p 0)) ps t in subst (λ (x : ℕ). T (not (eqb x 0))) (zero v h) n)

-- the second edition loses none
pub second-kept : (ps : List ℕ) → lost_package Second ps ≡ false
unfolding lost_package
second-kept ps = refl

-- an answer that is true exactly where some package is other than 0
pub lost_is : (ps : List ℕ) (r : Bool) → (IsTrue r ↔ SomeIndex ps (λ k. get_or ps k 0 ≢ 0)) → r ≡ lost_package First ps
lost_is ps true h = let (v, l, other) = h.0 refl in sym (lost-some ps v l other)
lost_is ps false h = sym (none-lost First ps (λ v l. ⊎_elim (λ e. e) (λ other. absurd (false≢true (h.1 (v, l, other)))) (eq-or-not (get_or ps v 0) 0)))
