-- Following links to nodes by their sets: what the search for a component does, and what lists the nodes that a round has to look at.
use Rattle.std.specs.Prelude.{◌∷◌, ◌++◌}
use Rattle.base_lists.specs.Kit.{cond, List, [], ℕ, get_or}
use Rattle.base_bits.specs.Bits.{intersects}
use Rattle.graph.specs.Bfs.{SearchState, visit}
use Rattle.graph.specs.Net.{driven, driving}

-- those nodes of a list whose sets have a part of `set`
unfoldable pub meeting : ℕ → List ℕ → List ℕ → List ℕ
meeting set sets [] = []
meeting set sets (v ∷ vs) = cond (intersects set (get_or sets v 0)) (v ∷ meeting set sets vs) (meeting set sets vs)

-- a look at one node of such a list: it is visited, at distance d, where its set has a part of `set`
unfoldable pub look : ℕ → ℕ → List ℕ → SearchState → ℕ → SearchState
look d set sets s v = cond (intersects set (get_or sets v 0)) (visit d s v) s

-- every part: a set that is not empty meets it
abbrev pub every_part : ℕ
every_part = 4294967295

-- the nodes beside v, directions ignored, whose sets are not empty
unfoldable pub nodes_beside : List ℕ → List ℕ → List ℕ → ℕ → List ℕ
nodes_beside offsets targets sets v = meeting every_part sets (driven offsets targets v) ++ meeting every_part sets (driving offsets targets v)
