-- The test whether every bound is from 1 to 4. Assumes nothing.
use Rattle.std.specs.Prelude.{◌≡◌, ◌↔◌, ◌&&◌, ◌≤◌, ◌<◌, IsTrue, EachIndex}
use Rattle.base_lists.specs.Kit.{sym, refl, Bool, false, true, List, ℕ, T, leb, le→leb, leb→le, length, get_or}
use Rattle.std.proofs.lemmas.Bool.{false≢true}
use Rattle.base_lists.specs.List.{all}
use Rattle.base_lists.proofs.Tests.{both_true, both_left, both_right, all-at, at_all, T_true, T_false}
use Rattle.file_bounds.specs.Third.{bounds_fit}

-- from 1 to 4
abbrev pub Fits : List ℕ → ℕ → Type 0
Fits bounds i = (1 ≤ get_or bounds i 0) × (get_or bounds i 0 ≤ 4)

pub fit_at : (bounds : List ℕ) → T (bounds_fit bounds) → (i : ℕ) → i < length bounds → Fits bounds i
unfolding bounds_fit
fit_at bounds t i h =
    let b = get_or bounds i 0 in
    let s = all-at (λ x. leb 1 x && leb x 4) bounds t i h in
    (leb→le 1 b (both_left (leb 1 b) (leb b 4) s), leb→le b 4 (both_right (leb 1 b) (leb b 4) s))

pub at-fit : (bounds : List ℕ) → ((i : ℕ) → i < length bounds → Fits bounds i) → bounds_fit bounds ≡ true
unfolding bounds_fit
at-fit bounds f =
    T_true {b = all (λ x. leb 1 x && leb x 4) bounds}
    (at_all (λ x. leb 1 x && leb x 4) bounds
    (λ i h. let (a, b) = f i h in both_true (leb 1 (get_or bounds i 0)) (leb (get_or bounds i 0) 4) (le→leb 1 (get_or bounds i 0) a) (le→leb (get_or bounds i 0) 4 b)))

-- an answer that is true exactly where each bound is from 1 to 4
pub fit_is : (bounds : List ℕ) (r : Bool) → (IsTrue r ↔ EachIndex bounds (Fits bounds)) → r ≡ bounds_fit bounds
fit_is bounds true h = sym (at-fit bounds (h.0 refl))
fit_is bounds false h = sym (T_false (λ t. absurd (false≢true (h.1 (fit_at bounds t)))))
