-- The circuits of document 01's examples of places that the match table's examples do not have.
use Rattle.std.specs.Prelude.{◌∷◌}
use Rattle.base_lists.specs.Kit.{[]}
use Rattle.graph.specs.Circuit.{Circuit}

-- E6: "Y: 0:10, 1:20, 2:20, links 0-1, 0-2"
unfoldable pub circuit_y : Circuit
circuit_y = record { labels = 10 ∷ 20 ∷ 20 ∷ []; starts = 0 ∷ 0 ∷ []; ends = 1 ∷ 2 ∷ [] }

-- E9: "Pattern 0:10, 1:20, link 0-1"; it is Y's merged pattern too. The board of E9, "that also has 1-0", is E5's pattern.
unfoldable pub circuit_one_link : Circuit
circuit_one_link = record { labels = 10 ∷ 20 ∷ []; starts = 0 ∷ []; ends = 1 ∷ [] }

-- one part, of kind 0
unfoldable pub any_part : Circuit
any_part = record { labels = 0 ∷ []; starts = []; ends = [] }
