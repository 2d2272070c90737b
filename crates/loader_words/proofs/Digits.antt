-- A word gone through digit by digit. Assumes nothing.
use Rattle.std.specs.Prelude.{Some, None, ◌≡◌, ◌∷◌, ◌≤◌, ◌<◌, ◌+◌, ◌-◌, ◌*◌, ◌^◌}
use Rattle.base_lists.specs.Kit.{◌∙◌, sym, ap, refl, false, true, and-false, List, [], ℕ, le_refl, le_trans, add-one, ltb, leb, length, get_or, drop, drop-cons, drop-length, arith, le-ltb, lt-ltb, le-leb, lt-leb}
use Rattle.base_lists.specs.List.{all}
use Rattle.loader_words.specs.Words.{is_digit, value, is_number, word_of}

-- more digits make no smaller number
value-ge : (first : ℕ) (ds : List ℕ) → first ≤ value first ds
unfolding value
value-ge first [] = le_refl first
value-ge first (d ∷ ds) = omega (arith, value-ge (10 * first + (d - 48)) ds)

-- What is known when i digits of a word came to a value.
pub record Passed (word : List ℕ) (v i : ℕ) : Type 0 where
  pub small : v < 2 ^ 32
  pub same : value 0 word ≡ value v (drop i word)
  pub digits : all is_digit word ≡ all is_digit (drop i word)

pub passed_none : (word : List ℕ) → Passed word 0 0
passed_none word = record { small = omega arith; same = refl; digits = refl }

module _ (word : List ℕ) (v i : ℕ) (p : Passed word v i) (h : i < length word) where
  -- the next byte is no digit
  pub no_digit : is_digit (get_or word i 0) ≡ false → None ≡ word_of word
  unfolding word_of is_number all
  no_digit e =
      let none : all is_digit word ≡ false = p.digits ∙ ap (all is_digit) (drop-cons word i 0 h) ∙ rw e in
      sym (rw (none, and-false (leb 1 (length word))))

  module _ (e : is_digit (get_or word i 0) ≡ true) (w : ℕ) (is : w ≡ 10 * v + (get_or word i 0 - 48)) where
    next-same : value 0 word ≡ value w (drop (i + 1) word)
    unfolding value
    next-same = p.same ∙ ap (value v) (drop-cons word i 0 h) ∙ rw (add-one, is)

    next-digits : all is_digit word ≡ all is_digit (drop (i + 1) word)
    unfolding all
    next-digits = p.digits ∙ ap (all is_digit) (drop-cons word i 0 h) ∙ rw (e, add-one)

    pub passed-next : w < 2 ^ 32 → Passed word w (i + 1)
    passed-next l = record { small = l; same = next-same; digits = next-digits }

    -- the number is too large
    pub too_large : 2 ^ 32 ≤ w → None ≡ word_of word
    unfolding word_of is_number
    too_large l =
        let over : ltb (value 0 word) (2 ^ 32) ≡ false = le-ltb (value 0 word) (2 ^ 32) (rw next-same (le_trans l (value-ge w (drop (i + 1) word)))) in
        sym (rw (over, and-false (all is_digit word), and-false (leb 1 (length word))))

-- all digits are passed
pub passed-all : (word : List ℕ) (v i : ℕ) → Passed word v i → 1 ≤ length word → i ≡ length word → Some v ≡ word_of word
unfolding word_of is_number all value
passed-all word v i p some e =
    let rest : drop i word ≡ [] = ap (λ (k : ℕ). drop k word) e ∙ drop-length word in
    let digits : all is_digit word ≡ true = p.digits ∙ rw rest in
    let is : value 0 word ≡ v = p.same ∙ rw rest in
    sym (rw (le-leb _ _ some, digits, is, lt-ltb _ _ p.small))

pub no_word : (word : List ℕ) → length word < 1 → None ≡ word_of word
unfolding word_of is_number
no_word word h = sym (rw (lt-leb _ _ h))
