-- Links chosen by a byte for each: 1 for chosen, anything else for left out.
use Rattle.base_lists.specs.Kit.{List, ℕ, zero, T}
use Rattle.base_lists.specs.Below.{keep_from}
use Rattle.graph.specs.Circuit.{Circuit, LinkAt}
use Rattle.graph.specs.Search.{inside}

-- the entries of a list whose byte is 1, in their order
unfoldable pub picked : List ℕ → List ℕ → List ℕ
picked marks xs = keep_from zero (inside marks) xs

-- the circuit with the chosen links alone: all its nodes stay
unfoldable pub chosen : Circuit → List ℕ → Circuit
chosen c marks = record { labels = c.labels; starts = picked marks c.starts; ends = picked marks c.ends }

-- the circuit has a link from v to w that is chosen
unfoldable pub ChosenLink : Circuit → List ℕ → ℕ → ℕ → Type 0
ChosenLink c marks v w = (i : ℕ) × LinkAt c.starts c.ends v w i × T (inside marks i)
