-- Tables of sets of parts: which pairs they hold, when two are equal, and how many pairs they have. Assumes nothing.
use Rattle.std.specs.Prelude.{◌≡◌, ◌↔◌, ◌⊎◌, ◌∷◌, ◌≤◌, ◌<◌, ◌+◌, ◌^◌}
use Rattle.base_lists.specs.Kit.{◌∙◌, sym, ap, refl, subst, ap₂, ⊎_elim, inl, inr, Bool, List, [], map, ℕ, suc, zero, not-suc-le-zero, lt_of_lt_of_le, lt_of_not-le, T, length, get_or, get_or-eq_default, length-map, ext_get_or, arith}
use native.Mathlib.Decide.{dec_lt}
use lib.Count.{ones}
use lib.Pow.{pow_pos, pow_mono}
use Rattle.base_lists.specs.List.{tabulate, sum}
use Rattle.base_lists.specs.Below.{count_below}
use Rattle.base_lists.proofs.Tests.{false-T, same_test}
use Rattle.base_lists.proofs.Tables.{length-tabulate, get_d_tabulate}
use Rattle.base_lists.proofs.Below.{count_below-mono, count_below-equal}
use Rattle.base_lists.proofs.Rows.{sum-progress}
use Rattle.base_bits.specs.Bits.{bit, number_of, size_of}
use Rattle.base_bits.proofs.Digits.{bit-of-zero, bit_below, same_bits, same-bits-below}
use Rattle.base_bits.proofs.Numbers.{number_lt, bit-number}
use Rattle.base_bits.proofs.Counts.{ones-count}
use Rattle.simulation.specs.Closed.{◌⊆◌}
use Rattle.table_row.specs.Row.{in_table, table_of, pairs}
use Rattle.table_row.specs.Reading.{InTable, SetsFit}

-- ---- the pairs of a table

-- a table holds no pair past its end
pub in-node : (t : List ℕ) (u v : ℕ) → InTable t u v → v < length t
unfolding in_table
in-node t u v m = lt_of_not-le (λ l. false-T (ap (λ x. bit x u) (get_or-eq_default t 0 l) ∙ bit-of-zero u) m)

module _ {n k : ℕ} where
  -- the node and the part of a pair are in range
  pub fits-node : {t : List ℕ} (f : SetsFit n k t) (u v : ℕ) → InTable t u v → v < n
  fits-node {t} f u v m = subst (λ x. v < x) f.size (in-node t u v m)

  pub fits-part : {t : List ℕ} (f : SetsFit n k t) (u v : ℕ) → InTable t u v → u < k
  unfolding in_table
  fits-part {t} f u v m = bit_below k (get_or t v 0) u (f.small v) m

-- two tables of as many nodes with the same pairs are equal
pub same-pairs : (s t : List ℕ) → length s ≡ length t → InTable s ⊆ InTable t → InTable t ⊆ InTable s → s ≡ t
unfolding in_table
same-pairs s t long there back =
    ext_get_or 0 s t long (λ v h. same_bits (get_or s v 0) (get_or t v 0) (λ u. same_test (there u v) (back u v)))

-- ---- a table made from a test of part and node

module _ (n k : ℕ) (test : ℕ → ℕ → Bool) where
  entry : (v : ℕ) → v < n → get_or (table_of n k test) v 0 ≡ number_of k (λ u. test u v)
  unfolding table_of
  entry v h = get_d_tabulate n (λ v. number_of k (λ u. test u v)) v 0 h

  size : length (table_of n k test) ≡ n
  unfolding table_of
  size = length-tabulate n (λ v. number_of k (λ u. test u v))

  pub table_fits : SetsFit n k (table_of n k test)
  table_fits = record { size = size; small = λ v. go v (dec_lt v n) }
    where
      go : (v : ℕ) → Dec (v < n) → get_or (table_of n k test) v 0 < 2 ^ k
      go v (yes h) = rw (entry v h) (number_lt k (λ u. test u v))
      go v (no h) =
          let l : length (table_of n k test) ≤ v = omega (arith, size) in
          rw (get_or-eq_default (table_of n k test) 0 l) (pow_pos k)

  -- it holds the pairs in range that pass
  pub table-in : (u v : ℕ) → InTable (table_of n k test) u v ↔ ((u < k) × (v < n) × T (test u v))
  unfolding in_table
  table-in u v = (
    λ m.
        let h : u < k = fits-part table_fits u v m in
        let l : v < n = fits-node table_fits u v m in
        (h, l, subst T (ap (λ x. bit x u) (entry v l) ∙ bit-number k (λ u. test u v) u h) m),
    λ (h, l, q). subst T (sym (ap (λ x. bit x u) (entry v l) ∙ bit-number k (λ u. test u v) u h)) q,
  )

-- ---- the table of no pair

pub none-fits : (n k : ℕ) → SetsFit n k (tabulate n (λ v. 0))
none-fits n k =
    record {
      size = length-tabulate n (λ v. 0);
      small = λ v. go v (dec_lt v n);
    }
  where
    go : (v : ℕ) → Dec (v < n) → get_or (tabulate n (λ v. 0)) v 0 < 2 ^ k
    go v (yes h) = rw (get_d_tabulate n (λ v. 0) v 0 h) (pow_pos k)
    go v (no h) =
        let l : length (tabulate n (λ v. 0)) ≤ v = omega (arith, length-tabulate n (λ v. 0)) in
        rw (get_or-eq_default (tabulate n (λ v. 0)) 0 l) (pow_pos k)

pub none_in : (n u v : ℕ) → InTable (tabulate n (λ v. 0)) u v → ⊥
none_in n u v m = not-suc-le-zero (fits-part (none-fits n 0) u v m)

-- ---- how many pairs

-- the entries are 32-bit numbers, where there are at most 32 parts
pub fits_word : {n k : ℕ} → k ≤ 32 → {t : List ℕ} → SetsFit n k t → (v : ℕ) → get_or t v 0 < 2 ^ 32
fits_word most f v = lt_of_lt_of_le (f.small v) (pow_mono most)

-- the size of an entry
size-entry : (t : List ℕ) (v : ℕ) → get_or (map size_of t) v 0 ≡ size_of (get_or t v 0)
unfolding size_of count_below bit
size-entry [] v = refl
size-entry (x ∷ xs) zero = refl
size-entry (x ∷ xs) (suc v) = size-entry xs v

module _ {n k : ℕ} (most : k ≤ 32) {s t : List ℕ} (f : SetsFit n k s) (g : SetsFit n k t) (inside : InTable s ⊆ InTable t) where
  size-le : (v : ℕ) → size_of (get_or s v 0) ≤ size_of (get_or t v 0)
  unfolding size_of in_table
  size-le v = count_below-mono 32 (bit (get_or s v 0)) (bit (get_or t v 0)) (λ u h. inside u v)

  size-equal : (v : ℕ) → size_of (get_or s v 0) ≡ size_of (get_or t v 0) → get_or s v 0 ≡ get_or t v 0
  unfolding size_of in_table
  size-equal v e =
      same-bits-below 32 (get_or s v 0) (get_or t v 0) (fits_word most f v) (fits_word most g v)
      (count_below-equal 32 (bit (get_or s v 0)) (bit (get_or t v 0)) (λ u h. inside u v) e)

  -- A table inside another has fewer pairs, or is equal to it.
  pub pairs-progress : (pairs s < pairs t) ⊎ (s ≡ t)
  unfolding pairs
  pairs-progress =
      ⊎_elim inl
      (λ e. inr (ext_get_or 0 s t (f.size ∙ sym g.size) (λ v h. size-equal v (sym (size-entry s v) ∙ sym (ap (λ xs. get_or xs v 0) e) ∙ size-entry t v))))
      (sum-progress (map size_of s) (map size_of t) (length-map s size_of ∙ f.size ∙ sym (length-map t size_of ∙ g.size))
      (λ v h. rw (size-entry s v, size-entry t v) (size-le v)))

pub pairs-none : (n : ℕ) → pairs (tabulate n (λ v. 0)) ≡ 0
unfolding pairs sum tabulate size_of count_below bit
pairs-none zero = refl
pairs-none (suc n) = omega (arith, pairs-none n)

-- the number of pairs is the "number of one bits in the whole table"
pub pairs-ones : (t : List ℕ) → ((v : ℕ) → get_or t v 0 < 2 ^ 32) → pairs t ≡ sum (map ones t)
unfolding pairs sum size_of
pairs-ones [] h = refl
pairs-ones (x ∷ xs) h = ap₂ (λ (a b : ℕ). a + b) (sym (ones-count 32 x (h zero))) (pairs-ones xs (λ v. h (suc v)))
