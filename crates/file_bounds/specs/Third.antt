-- The third edition of a pattern file: a file of the second edition, and a bound for each link after it.
use Rattle.std.specs.Prelude.{◌≡◌, ◌&&◌, ◌∷◌, ◌++◌, ◌+◌, ◌*◌, Result, Ok}
use Rattle.base_lists.specs.Kit.{Bool, cond, not, List, [], ℕ, eqb, ltb, leb, length, take, drop}
use Rattle.base_lists.specs.List.{all}
use Rattle.graph.specs.Circuit.{Circuit}
use Rattle.file_format.specs.declared.Edition.TheVariants.{Second}
use Rattle.file_format.specs.declared.FileRead.{FileRead}
use Rattle.file_format.specs.declared.Refusal.{Refusal}
use Rattle.file_format.specs.declared.Role.TheVariants.{AnyPattern}
use Rattle.file_format.specs.Layout.{CircuitFile, in_edition, field, fields, length_of, starts_of, ends_of}
use Rattle.file_format.specs.Reading.{Stands}
use Rattle.file_format.specs.Reply.{verdict_of}
use Rattle.file_format.specs.Refusals.{Condition, first, link_conditions}
use Rattle.file_format.specs.Role.{in_range, file_of}

-- ---- where the bounds stand

-- "A pattern file of a third edition has a third parallel array after the ends: a bound for each link, 1 to 4."
abbrev pub bounds_at : ℕ → ℕ → ℕ
bounds_at n m = length_of Second n m

-- "The length is 4 + 4N + 6M."
abbrev pub bounded_length : ℕ → ℕ → ℕ
bounded_length n m = bounds_at n m + 2 * m

-- what stands before the bounds: a file of the second edition
unfoldable pub before_bounds : List ℕ → CircuitFile
before_bounds bytes = in_edition Second (take (bounds_at (field bytes 0) (field bytes 2)) bytes)

unfoldable pub bounds_of : List ℕ → List ℕ
bounds_of bytes = fields (drop (bounds_at (field bytes 0) (field bytes 2)) bytes) (field bytes 2)

-- ---- what refuses such a file

-- every bound is from 1 to 4
unfoldable pub bounds_fit : List ℕ → Bool
bounds_fit bounds = all (λ b. leb 1 b && leb b 4) bounds

-- "Turned away: 13, a bound outside 1 to 4, checked after the pattern's 5 and before the board's 1." It names the pattern.
unfoldable pub bound_outside : List ℕ → Condition
bound_outside bounds = record { number = 13; file = file_of AnyPattern; holds = not (bounds_fit bounds) }

-- 1, 2 and 3 with the third edition's length, 4 and 5 (the pattern may be any, so neither 6 nor 11), 13
unfoldable pub third_conditions : List ℕ → List Condition
third_conditions bytes =
    let n = field bytes 0 in
    let m = field bytes 2 in
    record { number = 1; file = file_of AnyPattern; holds = ltb (length bytes) 4 } ∷
    record { number = 2; file = file_of AnyPattern; holds = not (in_range AnyPattern n m) } ∷
    record { number = 3; file = file_of AnyPattern; holds = not (eqb (length bytes) (bounded_length n m)) } ∷
    (link_conditions AnyPattern n (starts_of (before_bounds bytes)) (ends_of (before_bounds bytes)) ++ (bound_outside (bounds_of bytes) ∷ []))

-- the number of the first condition on the size that holds, 1, 2 or 3, and 0 where none does
unfoldable pub third_size : List ℕ → ℕ
third_size bytes =
    let n = field bytes 0 in
    let m = field bytes 2 in
    cond (ltb (length bytes) 4) 1 (cond (in_range AnyPattern n m) (cond (eqb (length bytes) (bounded_length n m)) 0 3) 2)

-- ---- such a file that was read

-- its circuit stands at the front of three tables, and its bounds at the front of a fourth
pub record BoundsHeld (bytes : List ℕ) (read : FileRead) (tables : Circuit) (bounds : List ℕ) : Type 0 where
  pub stands : Stands (before_bounds bytes) read.nodes read.links tables
  pub bounded : take read.links bounds ≡ bounds_of bytes

pub record BoundsLoaded (bytes : List ℕ) (read : Result FileRead Refusal) (tables : Circuit) (bounds : List ℕ) : Type 0 where
  pub verdict : verdict_of read ≡ first (third_conditions bytes)
  pub held : (size : FileRead) → read ≡ Ok size → BoundsHeld bytes size tables bounds
