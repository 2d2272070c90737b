-- What a session's tables hold at first, one after another.
use Rattle.std.specs.Prelude.{◌≡◌, ◌∷◌, ◌++◌, ◌<◌}
use Rattle.base_lists.specs.Kit.{List, [], ℕ, length, get_or, take, drop, replicate}
use Rattle.graph.specs.Neighbours.{select, offsets_of, grouped_values}
use Rattle.graph.specs.Net.{NetRoom, forward_targets, backward_targets, driven, driving}
use Rattle.graph.specs.Search.{far}
use Rattle.table.specs.Fill.{all_nodes}
use Rattle.table.specs.Prepared.{masks_of, Masked}

-- a list that is filled in two halves of so many entries: the first by xs and the second by ys, at their fronts; what is past these stays
unfoldable pub halves_filled : ℕ → List ℕ → List ℕ → List ℕ → List ℕ
halves_filled size xs ys old = (xs ++ drop (length xs) (take size old)) ++ (ys ++ drop (length ys) (drop size old))

-- the numbers of the links of each node, by their starts and by their ends
pub record LinksNumbered (n : ℕ) (starts ends before held offsets numbers : List ℕ) : Type 0 where
  pub room : NetRoom offsets numbers
  pub in_offsets : offsets ≡ halves_filled 513 (offsets_of n starts) (offsets_of n ends) before
  pub in_numbers : numbers ≡ halves_filled 4096 (grouped_values n starts (all_nodes (length starts))) (grouped_values n ends (all_nodes (length starts))) held
  pub by_start : (v : ℕ) → v < n → driven offsets numbers v ≡ select starts (all_nodes (length starts)) v
  pub by_end : (v : ℕ) → v < n → driving offsets numbers v ≡ select ends (all_nodes (length starts)) v

-- values, and past these no node's number, up to so many entries
unfoldable pub padded : ℕ → List ℕ → List ℕ
padded k values = values ++ drop (length values) (replicate k far)

-- each link's end, and then each one's start; past these no node
pub record Ended (starts ends stored : List ℕ) : Type 0 where
  pub room : length stored ≡ 8192
  pub content : stored ≡ padded 4096 ends ++ padded 4096 starts
  pub forward : forward_targets stored ≡ padded 4096 ends
  pub backward : backward_targets stored ≡ padded 4096 starts

-- the pattern's masks, and how many parts and nodes there are
pub record Fixed (starts ends : List ℕ) (parts nodes : ℕ) (fixed : List ℕ) : Type 0 where
  pub room : length fixed ≡ 66
  pub content : fixed ≡ (masks_of 32 starts ends ++ masks_of 32 ends starts) ++ (parts ∷ nodes ∷ [])
  pub masked : Masked starts ends (take 64 fixed)
  pub of_parts : get_or fixed 64 0 ≡ parts
  pub of_nodes : get_or fixed 65 0 ≡ nodes
