-- What a place names, by the tables.
use Rattle.std.specs.Prelude.{◌≡◌, ◌+◌, Option, Some, None}
use Rattle.base_lists.specs.Kit.{cond, List, ℕ, get_or}
use Rattle.graph.specs.Search.{far}
use Rattle.session.specs.State.{takes, ends_without}

-- the two ends of the link at a place, where one is left; and the ends after it was taken out
pub record TakenOut (ends : List ℕ) (nodes linkIndex : ℕ) (taken : Option (ℕ × ℕ)) (ends' : List ℕ) : Type 0 where
  pub link : taken ≡ cond (takes ends nodes linkIndex) (Some (get_or ends (4096 + linkIndex) far, get_or ends linkIndex far)) None
  pub left : ends' ≡ cond (takes ends nodes linkIndex) (ends_without ends linkIndex) ends
