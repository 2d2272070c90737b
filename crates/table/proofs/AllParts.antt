-- A table has each of its parts at some node exactly when the union of its sets has as many parts. Assumes nothing.
use Rattle.std.specs.Prelude.{◌≡◌, ◌||◌, ◌∷◌, ◌≤◌, ◌<◌, ◌^◌}
use Rattle.base_lists.specs.Kit.{◌∙◌, sym, ap, Bool, List, [], ℕ, suc, zero, eqb, length, get_or, replicate, eq-eqb, ne_eqb}
use lib.Bits.{or_lt}
use lib.Pow.{pow_pos}
use Rattle.base_lists.specs.List.{any_below}
use Rattle.base_lists.proofs.Below.{all_below-same, count_below-all_below}
use Rattle.base_lists.proofs.Tables.{replicate-tabulate}
use Rattle.base_bits.specs.Bits.{bit, size_of}
use Rattle.base_bits.proofs.Counts.{ones-count}
use Rattle.base_bits.proofs.Digits.{bit-of-zero, bit-or}
use Rattle.table.specs.declared.Counts.{Counts}
use Rattle.table.specs.Answer.{SetsFit, all_occur, all_or_none, counts_where, Ruled}
use Rattle.table.proofs.Sets.{fits_word}
use Rattle.table.specs.Row.{in_table}
use Rattle.table.specs.Union.{union_all}

-- a part is in the union when it is at some node
pub bit-union-all : (t : List ℕ) (u : ℕ) → bit (union_all t) u ≡ any_below (length t) (λ v. in_table t u v)
unfolding union_all any_below in_table
bit-union-all [] u = bit-of-zero u
bit-union-all (x ∷ xs) u = bit-or x (union_all xs) u ∙ ap (λ (b : Bool). bit x u || b) (bit-union-all xs u)

-- what the sets have room for has room for their union
union-lt : (k : ℕ) (t : List ℕ) → ((v : ℕ) → get_or t v 0 < 2 ^ k) → union_all t < 2 ^ k
unfolding union_all
union-lt k [] h = pow_pos k
union-lt k (x ∷ xs) h = or_lt k x (union_all xs) (h zero) (union-lt k xs (λ v. h (suc v)))

module _ (k : ℕ) (few : k ≤ 32) (t : List ℕ) (fits : SetsFit (length t) k t) where
  pub occur-size : eqb (size_of (union_all t)) k ≡ all_occur (length t) k t
  unfolding size_of all_occur
  occur-size =
      let small = union-lt k t fits.small in
      let wide : union_all t < 2 ^ 32 = union-lt 32 t (fits_word few fits) in
      ap (λ (c : ℕ). eqb c k) (sym (ones-count 32 (union_all t) wide) ∙ ones-count k (union_all t) small)
      ∙ count_below-all_below k (bit (union_all t))
      ∙ all_below-same k (bit (union_all t)) (λ u. any_below (length t) (λ v. in_table t u v)) (λ u h. bit-union-all t u)

  -- ---- as the rule is applied

  -- every part occurs: nothing changes
  pub ruled-all : (counts : Counts) → size_of (union_all t) ≡ k → Ruled k (length t) t counts t counts
  unfolding all_or_none counts_where
  ruled-all counts e = let all = sym occur-size ∙ eq-eqb (size_of (union_all t)) k e in record { made = rw all; counted = rw all }

  -- one does not: the table is cleared
  pub ruled-none :
      (counts : Counts) {table : List ℕ} {answer : Counts} → (size_of (union_all t) ≡ k → ⊥) → table ≡ replicate (length t) 0 →
      answer ≡ record { started = counts.started; kept = 0; struck = counts.started; rounds = counts.rounds } →
      Ruled k (length t) t counts table answer
  unfolding all_or_none counts_where
  ruled-none counts n c a =
      let none = sym occur-size ∙ ne_eqb (size_of (union_all t)) k n in
      record { made = rw none (c ∙ replicate-tabulate (length t)); counted = rw none a }
