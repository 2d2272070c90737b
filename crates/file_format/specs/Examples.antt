-- Files of document 01's examples, as bytes.
use Rattle.std.specs.Prelude.{◌∷◌}
use Rattle.base_lists.specs.Kit.{List, [], ℕ}

-- T: "0:10, 1:20, 2:30, links 0-1, 1-2."
unfoldable pub file_t : List ℕ
file_t = 3 ∷ 0 ∷ 2 ∷ 0 ∷ 10 ∷ 0 ∷ 20 ∷ 0 ∷ 30 ∷ 0 ∷ 0 ∷ 0 ∷ 1 ∷ 0 ∷ 1 ∷ 0 ∷ 2 ∷ 0 ∷ []

-- B: "0:10, 1:20, 2:30, 3:20, 4:30, 5:10, links 0-1, 1-2, 3-4."
unfoldable pub file_b : List ℕ
file_b =
    6 ∷ 0 ∷ 3 ∷ 0 ∷ 10 ∷ 0 ∷ 20 ∷ 0 ∷ 30 ∷ 0 ∷ 20 ∷ 0 ∷ 30 ∷ 0 ∷ 10 ∷ 0 ∷ 0 ∷ 0 ∷ 1 ∷ 0 ∷ 3 ∷ 0 ∷ 1 ∷ 0 ∷ 2 ∷ 0 ∷ 4 ∷ 0 ∷ []

-- one part, of kind 10
unfoldable pub file_one : List ℕ
file_one = 1 ∷ 0 ∷ 0 ∷ 0 ∷ 10 ∷ 0 ∷ []
