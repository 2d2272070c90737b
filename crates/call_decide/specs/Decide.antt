-- What a call decides by numbers alone, once its files are read.
use Rattle.std.specs.Prelude.{Option, Some, None, ◌∷◌}
use Rattle.base_lists.specs.Kit.{List, [], ℕ}
use Rattle.file_format.specs.declared.File.TheVariants.{Neither}
use Rattle.file_format.specs.declared.Refusal.{Refusal}
use Rattle.file_format.specs.Refusals.{Condition, centre_outside, short_table, other_length}

-- "One call uses the pattern's radius, one a radius given."
unfoldable pub radius_for : Option ℕ → ℕ → ℕ
radius_for None own = own
radius_for (Some r) own = r

-- number 8, of neither file
abbrev pub too_short : Refusal
too_short = record { number = 8; file = Neither }

-- 8 for the tables: "Needed: .. place N, M, N", and N distances, whose "length counts under 8" (document 02, Ask 2)
unfoldable pub room_conditions : ℕ → ℕ → ℕ → ℕ → ℕ → ℕ → List Condition
room_conditions n m nodes links table distances =
    short_table n nodes ∷ short_table m links ∷ short_table n table ∷ short_table n distances ∷ []

-- 7 for the centre, then 8
abbrev pub place_conditions : ℕ → ℕ → ℕ → ℕ → ℕ → ℕ → ℕ → List Condition
place_conditions n m w nodes links table distances = centre_outside n w ∷ room_conditions n m nodes links table distances

-- 7 for the centre, then 8 for the one table of a ball: "Needed: .. ball N"
abbrev pub ball_room : ℕ → ℕ → ℕ → List Condition
ball_room n w lent = centre_outside n w ∷ short_table n lent ∷ []

-- 7 for the centre; "Node or link bytes of another length than N and M are 3 with neither file named, checked after 7."
abbrev pub bytes_conditions : ℕ → ℕ → ℕ → ℕ → ℕ → List Condition
bytes_conditions n m w nodes links = centre_outside n w ∷ other_length n nodes ∷ other_length m links ∷ []
