-- Where each of the byte strings lies that lie one after another. Assumes nothing.
use Rattle.std.specs.Prelude.{◌≡◌, ◌∷◌, ◌≤◌, ◌<◌, ◌+◌, ◌-◌}
use Rattle.base_lists.specs.Kit.{◌∙◌, sym, ap, refl, Bool, false, true, List, [], ℕ, suc, zero, add-one, leb, length, get_or, take, drop, length-drop, get_or-eq_default, drop_of_length-le, take_all, take-suc, drop-drop, arith, leb-true, leb-false}
use Rattle.base_lists.specs.List.{sum}
use Rattle.base_lists.proofs.Rows.{sum-last}
use Rattle.call_shelf.specs.Strings.{cut_into, capped}

pub length_cut : (bytes sizes : List ℕ) → length (cut_into bytes sizes) ≡ length sizes
unfolding cut_into
length_cut bytes [] = refl
length_cut bytes (k ∷ ks) = ap suc (length_cut (drop k bytes) ks)

-- past the last there is none
pub cut-past : (bytes sizes : List ℕ) (i : ℕ) → length sizes ≤ i → get_or (cut_into bytes sizes) i [] ≡ []
cut-past bytes sizes i h = get_or-eq_default (cut_into bytes sizes) [] {n = i} (omega (arith, length_cut bytes sizes))

-- the i-th begins where those before it end
pub cut_at : (bytes sizes : List ℕ) (i : ℕ) → i < length sizes → get_or (cut_into bytes sizes) i [] ≡ take (get_or sizes i 0) (drop (sum (take i sizes)) bytes)
unfolding cut_into sum
cut_at bytes [] i h = absurd (omega arith)
cut_at bytes (k ∷ ks) zero h = refl
cut_at bytes (k ∷ ks) (suc i) h =
    cut_at (drop k bytes) ks i (omega arith) ∙ ap (take (get_or ks i 0)) (drop-drop (sum (take i ks)) k bytes)

-- ---- with the end of the bytes as a bound

module _ (most x : ℕ) where
  pub capped_le : capped most x ≤ most
  unfolding capped
  capped_le = go (leb x most) refl
    where
      go : (b : Bool) → leb x most ≡ b → capped most x ≤ most
      go true e = rw e (leb-true x most e)
      go false e = rw e (omega arith)

module _ (bytes : List ℕ) (x : ℕ) where
  drop-capped : drop (capped (length bytes) x) bytes ≡ drop x bytes
  unfolding capped
  drop-capped = go (leb x (length bytes)) refl
    where
      go : (b : Bool) → leb x (length bytes) ≡ b → drop (capped (length bytes) x) bytes ≡ drop x bytes
      go true e = rw e refl
      go false e =
          rw e (drop_of_length-le bytes {i = length bytes} (omega arith) ∙ sym (drop_of_length-le bytes {i = x} (omega (arith, leb-false x (length bytes) e))))

-- the part from one place up to another that is so many bytes on, or the end
part-capped : (bytes : List ℕ) (at size : ℕ) → at ≤ length bytes → take (capped (length bytes) (at + size) - at) (drop at bytes) ≡ take size (drop at bytes)
unfolding capped
part-capped bytes at size h = go (leb (at + size) (length bytes)) refl
  where
    go : (b : Bool) → leb (at + size) (length bytes) ≡ b → take (capped (length bytes) (at + size) - at) (drop at bytes) ≡ take size (drop at bytes)
    go true e = rw e (let k : at + size - at ≡ size = omega arith in rw k refl)
    go false e =
        rw e
        (take_all (length bytes - at) (drop at bytes) (omega (arith, length-drop at bytes))
        ∙ sym (take_all size (drop at bytes) (omega (arith, length-drop at bytes, leb-false (at + size) (length bytes) e))))

-- ---- as the loop goes

-- j strings lie before the place, or the bytes end there
pub record Passed (bytes sizes : List ℕ) (j at : ℕ) : Type 0 where
  pub within : at ≤ length bytes
  pub rest : drop at bytes ≡ drop (sum (take j sizes)) bytes

pub passed_none : (bytes sizes : List ℕ) → Passed bytes sizes 0 0
unfolding sum
passed_none bytes sizes = record { within = omega arith; rest = refl }

module _ {bytes sizes : List ℕ} {j at : ℕ} (p : Passed bytes sizes j at) (h : j < length sizes) where
  pub passed-more : (next : ℕ) → next ≡ capped (length bytes) (at + get_or sizes j 0) → Passed bytes sizes (j + 1) next
  passed-more next e =
      let k = get_or sizes j 0 in
      let further : sum (take (j + 1) sizes) ≡ sum (take j sizes) + k = rw (add-one, take-suc sizes j 0 h) (sum-last (take j sizes) k) in
      record {
        within = rw e (capped_le (length bytes) (at + k));
        rest =
            ap (λ (x : ℕ). drop x bytes) e
            ∙ drop-capped bytes (at + k)
            ∙ sym (drop-drop k at bytes)
            ∙ ap (drop k) p.rest
            ∙ drop-drop k (sum (take j sizes)) bytes
            ∙ ap (λ (x : ℕ). drop x bytes) (sym further);
      }

-- the part that is handed out: the string that comes next
pub passed-last : {bytes sizes : List ℕ} {j at : ℕ} → Passed bytes sizes j at → (i : ℕ) → j ≡ i → i < length sizes
    → (end : ℕ) → end ≡ capped (length bytes) (at + get_or sizes i 0) → take (end - at) (drop at bytes) ≡ get_or (cut_into bytes sizes) i []
passed-last {bytes} {sizes} {j} {at} p i same h end e =
    let k = get_or sizes i 0 in
    ap (λ (x : ℕ). take (x - at) (drop at bytes)) e
    ∙ part-capped bytes at k p.within
    ∙ ap (take k) (p.rest ∙ ap (λ (x : ℕ). drop (sum (take x sizes)) bytes) same)
    ∙ sym (cut_at bytes sizes i h)
