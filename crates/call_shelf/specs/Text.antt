-- "prints the two-digit numbers of accepted ones in order, one to a line" (document 02, a shelf in order)
use Rattle.std.specs.Prelude.{◌∷◌, ◌++◌, ◌+◌, ◌/◌, ◌%◌}
use Rattle.base_lists.specs.Kit.{List, [], ℕ}

-- a number below 100 in two digits, 48 being the byte of 0; "Every line ends with one byte `0A`."
unfoldable pub line_of : ℕ → List ℕ
line_of x = (48 + x / 10) ∷ (48 + x % 10) ∷ 10 ∷ []

unfoldable pub shelf_text : List ℕ → List ℕ
shelf_text [] = []
shelf_text (x ∷ xs) = line_of x ++ shelf_text xs
