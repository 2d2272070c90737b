-- "Links rise strictly by start, then by end", and lists that rise strictly.
use Rattle.std.specs.Prelude.{◌≡◌, ◌⊎◌, ◌<◌}
use Rattle.base_lists.specs.Kit.{List, ℕ, length, get_or}

-- each entry is below every later one
unfoldable pub Rising : List ℕ → Type 0
Rising xs = (i j : ℕ) → i < j → j < length xs → get_or xs i 0 < get_or xs j 0

-- each link comes before every later one: by its start, or by its end where the starts are equal
unfoldable pub LinksRise : List ℕ → List ℕ → Type 0
LinksRise starts ends =
    (i j : ℕ) → i < j → j < length starts
    → (get_or starts i 0 < get_or starts j 0) ⊎ ((get_or starts i 0 ≡ get_or starts j 0) × (get_or ends i 0 < get_or ends j 0))
