-- Text as bytes: words and decimal numerals; and text written into a table from an offset on.
use Rattle.std.specs.Prelude.{◌≡◌, ◌∷◌, ◌++◌, ◌≤◌, ◌+◌, ◌*◌, ◌/◌, ◌%◌}
use Rattle.base_lists.specs.Kit.{cond, List, [], ℕ, suc, zero, ltb, length, sets}
use Prim.Native.Char.{code}
use Prim.Native.String.{String}
use Prim.Native.String as string
use Rattle.base_lists.specs.List.{tabulate}

-- A word's bytes: the number of each character, which is its byte where the characters are ASCII's.
unfoldable pub bytes : String → List ℕ
bytes string.[] = []
bytes (string.◌∷◌ c s) = code c ∷ bytes s

-- The decimal numeral of a number, as bytes: the digits of what is left after the last digit, then the last digit, 48 being the byte of 0. The first number
-- bounds the steps; a number is more than enough for itself.
unfoldable pub digits : ℕ → ℕ → List ℕ
digits zero x = []
digits (suc k) x = cond (ltb x 10) ((48 + x) ∷ []) (digits k (x / 10) ++ ((48 + x % 10) ∷ []))

unfoldable pub decimal : ℕ → List ℕ
decimal x = digits (suc x) x

-- The four bytes of a 32-bit number, the low one first.
unfoldable pub bytes_of_four : ℕ → List ℕ
bytes_of_four x = (x % 256) ∷ (x / 256 % 256) ∷ (x / 65536 % 256) ∷ (x / 16777216) ∷ []

-- The name of a number of three digits: the 32-bit number that has them as its bytes, after a low byte of 0. A byte added to it stands before
-- the digits.
unfoldable pub digits_number : ℕ → ℕ
digits_number x = 256 * (48 + x / 100) + 65536 * (48 + x / 10 % 10) + 16777216 * (48 + x % 10)

-- a table of the names of the numbers 0, 1, 2, .., none with more than three digits; the entries of those with fewer are of no use
pub record Names (names : List ℕ) : Type 0 where
  pub table : names ≡ tabulate (length names) digits_number
  pub few : length names ≤ 1000

-- what writing a text from an offset on leaves: the table with the text's bytes stored one after another, and the offset after the text
pub record Put (before : List ℕ) (at : ℕ) (text after : List ℕ) (past : ℕ) : Type 0 where
  pub table : after ≡ sets before at text
  pub end : past ≡ at + length text

-- there is room for the text from the offset on
pub record Fits (out : List ℕ) (at : ℕ) (text : List ℕ) : Type 0 where
  pub room : at + length text ≤ length out
