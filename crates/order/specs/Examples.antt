-- Circuits of which one comparison says one thing and a later one another.
use Rattle.std.specs.Prelude.{◌∷◌}
use Rattle.base_lists.specs.Kit.{[]}
use Rattle.order.specs.Order.{Whole, followed, compare_numbers, compare_lists, compare_whole}

-- `unfolding order_computed` opens the comparison
unfoldable pub order_computed : Unit {0}
unfolding followed compare_numbers compare_lists compare_whole
order_computed = tt

-- two nodes, two links
unfoldable pub linked_both : Whole
linked_both = record { kinds = 9 ∷ 9 ∷ []; packages = 0 ∷ 0 ∷ []; starts = 0 ∷ 1 ∷ []; ends = 1 ∷ 0 ∷ [] }

-- three nodes of a lesser kind, one link
unfoldable pub three_nodes : Whole
three_nodes = record { kinds = 1 ∷ 1 ∷ 1 ∷ []; packages = 0 ∷ 0 ∷ 0 ∷ []; starts = 0 ∷ []; ends = 1 ∷ [] }

-- two nodes of a greater kind, one link
unfoldable pub linked_once : Whole
linked_once = record { kinds = 10 ∷ 10 ∷ []; packages = 0 ∷ 0 ∷ []; starts = 0 ∷ []; ends = 1 ∷ [] }

-- the same with a greater package at the second node; and with the link the other way
unfoldable pub other_package : Whole
other_package = record { kinds = 10 ∷ 10 ∷ []; packages = 0 ∷ 1 ∷ []; starts = 0 ∷ []; ends = 1 ∷ [] }

unfoldable pub opposite_way : Whole
opposite_way = record { kinds = 10 ∷ 10 ∷ []; packages = 0 ∷ 0 ∷ []; starts = 1 ∷ []; ends = 0 ∷ [] }

-- numbers whose low bytes rank otherwise: 256 and 1
unfoldable pub high_byte : Whole
high_byte = record { kinds = 256 ∷ 10 ∷ []; packages = 0 ∷ 0 ∷ []; starts = 0 ∷ []; ends = 1 ∷ [] }
