-- The bytes of numbers of 16 bits, and of a file's stretches.
use Rattle.std.specs.Prelude.{◌∷◌, ◌++◌, ◌+◌, ◌*◌, ◌/◌, ◌%◌}
use Rattle.base_lists.specs.Kit.{List, [], ℕ, length, take, drop}

-- "Every field is 16 bits unsigned, low byte first": two bytes for each number
unfoldable pub bytes_of : List ℕ → List ℕ
bytes_of [] = []
bytes_of (x ∷ xs) = x % 256 ∷ x / 256 ∷ bytes_of xs

-- "N, M, then N kinds, then two parallel arrays, M link starts and M link ends"; a second edition "has N packages, 16 bits each, between kinds
-- and starts"
unfoldable pub stretch_bytes : List ℕ → List ℕ → List ℕ → List ℕ → List ℕ
stretch_bytes kinds packages starts ends = bytes_of (length kinds ∷ length starts ∷ kinds ++ (packages ++ (starts ++ ends)))

-- a table in which the bytes of numbers stand from an offset on; the entries before and after are the old ones
unfoldable pub stored : List ℕ → ℕ → List ℕ → List ℕ
stored old at numbers = take at old ++ (bytes_of numbers ++ drop (at + 2 * length numbers) old)
