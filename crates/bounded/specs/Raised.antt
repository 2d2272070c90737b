-- Patterns that differ in their bounds alone, and patterns of which every bound is 1.
use Rattle.std.specs.Prelude.{◌≡◌, ◌≤◌, ◌<◌}
use Rattle.base_lists.specs.Kit.{List, ℕ, length, get_or}

-- "raising a bound": as many bounds, each at least as large
pub record Raised (bounds bounds' : List ℕ) : Type 0 where
  pub long : length bounds ≡ length bounds'
  pub at_least : (i : ℕ) → i < length bounds → get_or bounds i 0 ≤ get_or bounds' i 0

-- "With all bounds 1"
abbrev pub AllOne : List ℕ → Type 0
AllOne bounds = (i : ℕ) → i < length bounds → get_or bounds i 0 ≡ 1
