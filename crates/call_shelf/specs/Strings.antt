-- Byte strings that lie one after another.
use Rattle.std.specs.Prelude.{◌∷◌}
use Rattle.base_lists.specs.Kit.{cond, List, [], ℕ, leb, take, drop}

-- bytes cut into strings of these lengths, one after another; where the bytes end, the last ones are shorter, or empty
unfoldable pub cut_into : List ℕ → List ℕ → List (List ℕ)
cut_into bytes [] = []
cut_into bytes (size ∷ sizes) = take size bytes ∷ cut_into (drop size bytes) sizes

-- a number, but no more than a bound
unfoldable pub capped : ℕ → ℕ → ℕ
capped most x = cond (leb x most) x most
