-- Checking a place from elsewhere, computed: the bytes are those of a subgraph of the ball, and this subgraph is the place in itself. A subgraph
-- of a board is a board with fewer links; proofs/Perfect shows that the answer is yes exactly for a perfect subgraph.
use Rattle.std.specs.Prelude.{◌&&◌, ◌||◌}
use Rattle.base_lists.specs.Kit.{Bool, not, List, ℕ, leb, length, get_or}
use Rattle.base_lists.specs.List.{all, all_below}
use Rattle.graph.specs.Chosen.{chosen}
use Rattle.graph.specs.Circuit.{Circuit}
use Rattle.graph.specs.Search.{inside}
use Rattle.place.specs.Match.{ball_of, found, place_nodes, place_links}

-- "Bytes other than 0 and 1 .. give no": every byte is 0 or 1
unfoldable pub bits : List ℕ → Bool
bits bytes = all (λ b. leb b 1) bytes

-- ".. or a link whose ends are not both marked": every marked link has both its ends marked
unfoldable pub ends_marked : List ℕ → List ℕ → List ℕ → List ℕ → Bool
ends_marked starts ends nodes links =
    all_below (length links) (λ i. not (inside links i) || (inside nodes (get_or starts i 0) && inside nodes (get_or ends i 0)))

-- the bytes mark a subgraph, with the centre among its nodes
unfoldable pub marks_subgraph : Circuit → ℕ → List ℕ → List ℕ → Bool
marks_subgraph board w nodes links =
    (bits nodes && bits links) && (inside nodes w && ends_marked board.starts board.ends nodes links)

-- every marked node is marked in another row
unfoldable pub in_row : List ℕ → List ℕ → Bool
in_row row nodes = all_below (length nodes) (λ v. not (inside nodes v) || inside row v)

-- The place around w in a board, at a radius that leaves out nothing that links join to w, has all the marked nodes and all links.
unfoldable pub fills : Circuit → Circuit → ℕ → List ℕ → Bool
fills pattern board w nodes =
    let r = length board.labels in
    found pattern board w r && (in_row (place_nodes pattern board w r) nodes && all_below (length board.starts) (inside (place_links pattern board w r)))

-- "say yes exactly when these are a perfect subgraph around the centre at the pattern's radius, largest or not": w is the centre, r the radius
unfoldable pub checks : Circuit → Circuit → ℕ → ℕ → List ℕ → List ℕ → Bool
checks pattern board w r nodes links =
    marks_subgraph board w nodes links && (in_row (ball_of board w r) nodes && fills pattern (chosen board links) w nodes)
