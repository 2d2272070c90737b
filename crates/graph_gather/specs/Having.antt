-- Those of a list's nodes that pass a test, as that of having a number.
use Rattle.std.specs.Prelude.{◌∷◌}
use Rattle.base_lists.specs.Kit.{Bool, cond, List, [], ℕ, eqb, get_or}

unfoldable pub having : (ℕ → Bool) → List ℕ → List ℕ
having p [] = []
having p (v ∷ vs) = cond (p v) (v ∷ having p vs) (having p vs)

-- a node has the number x
abbrev pub numbered : List ℕ → ℕ → ℕ → Bool
numbered numbers x v = eqb (get_or numbers v 0) x
