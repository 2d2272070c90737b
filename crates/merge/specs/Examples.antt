-- The circuits of document 01's examples of merging that the place's examples do not have.
use Rattle.std.specs.Prelude.{◌∷◌}
use Rattle.base_lists.specs.Kit.{[]}
use Rattle.graph.specs.Circuit.{Circuit}

-- E8: "0:10, 1:20, 2:20, 3:30, links 0-1, 0-2, 2-3"
unfoldable pub circuit_e8 : Circuit
circuit_e8 = record { labels = 10 ∷ 20 ∷ 20 ∷ 30 ∷ []; starts = 0 ∷ 0 ∷ 2 ∷ []; ends = 1 ∷ 2 ∷ 3 ∷ [] }

-- a part that drives one of kind 0 and one of kind 10
unfoldable pub ten_and_any : Circuit
ten_and_any = record { labels = 20 ∷ 0 ∷ 10 ∷ []; starts = 0 ∷ 0 ∷ []; ends = 1 ∷ 2 ∷ [] }
