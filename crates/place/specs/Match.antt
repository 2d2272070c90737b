-- The place around a centre, computed: the ball, the largest dual simulation in it, the links that match, and what they join to the
-- centre. proofs/ shows that this is the perfect subgraph that contains every other.
use Rattle.std.specs.Prelude.{◌&&◌}
use Rattle.base_lists.specs.Kit.{Bool, cond, not, List, ℕ, zero, T, eqb, length, get_or}
use Rattle.base_lists.specs.List.{any_below, tabulate}
use Rattle.base_lists.specs.Below.{keep_from}
use Rattle.graph.specs.Circuit.{Circuit, LinkAt}
use Rattle.graph.specs.Graph.{Graph}
use Rattle.graph.specs.Search.{ball, inside, distances, radius}
use Rattle.table.specs.Row.{in_table, last_table}

-- "One call uses the pattern's radius, one a radius given."
unfoldable pub radius_of : Circuit → ℕ
radius_of pattern = radius (length pattern.labels) pattern.starts pattern.ends

-- the ball around the centre, a byte per node
unfoldable pub ball_of : Circuit → ℕ → ℕ → List ℕ
ball_of board w r = ball (length board.labels) board.starts board.ends w r

-- the distances in the ball, and 65,535 for a node outside it (document 02, Ask 2)
unfoldable pub distances_of : Circuit → ℕ → ℕ → List ℕ
distances_of board w r = distances (length board.labels) board.starts board.ends w r

-- the largest dual simulation of the pattern in the ball
unfoldable pub ball_table : Circuit → Circuit → ℕ → ℕ → List ℕ
ball_table pattern board w r = last_table pattern board (ball_of board w r)

-- the centre occurs in the ball's table
unfoldable pub found : Circuit → Circuit → ℕ → ℕ → Bool
found pattern board w r = not (eqb (get_or (ball_table pattern board w r) w 0) 0)

-- "those links (v, v') of H for which the pattern has a link (u, u') with (u, v) and (u', v') in S"
unfoldable pub matches : Circuit → List ℕ → ℕ → ℕ → Bool
matches pattern t v v' =
    any_below (length pattern.starts) (λ i. in_table t (get_or pattern.starts i 0) v && in_table t (get_or pattern.ends i 0) v')

-- the i-th link of the board matches
unfoldable pub link_matches : Circuit → Circuit → List ℕ → ℕ → Bool
link_matches pattern board t i = matches pattern t (get_or board.starts i 0) (get_or board.ends i 0)

-- the match graph's links: the board's links that match, in their order
unfoldable pub match_starts : Circuit → Circuit → List ℕ → List ℕ
match_starts pattern board t = keep_from zero (link_matches pattern board t) board.starts

unfoldable pub match_ends : Circuit → Circuit → List ℕ → List ℕ
match_ends pattern board t = keep_from zero (link_matches pattern board t) board.ends

-- the nodes that the match graph's links, directions ignored, join to the centre: a byte per node
unfoldable pub component : Circuit → Circuit → List ℕ → ℕ → List ℕ
component pattern board t w =
    ball (length board.labels) (match_starts pattern board t) (match_ends pattern board t) w (length board.labels)

-- the place's nodes and links, "a byte per board node and one per board link (1 in the place, else 0)"
unfoldable pub place_nodes : Circuit → Circuit → ℕ → ℕ → List ℕ
place_nodes pattern board w r = component pattern board (ball_table pattern board w r) w

unfoldable pub place_links : Circuit → Circuit → ℕ → ℕ → List ℕ
place_links pattern board w r =
    tabulate (length board.starts)
    (λ i. cond (link_matches pattern board (ball_table pattern board w r) i && inside (place_nodes pattern board w r) (get_or board.starts i 0)) 1 0)

-- "and a table as above, over the place's nodes only, 0 elsewhere"
unfoldable pub place_table : Circuit → Circuit → ℕ → ℕ → List ℕ
place_table pattern board w r =
    tabulate (length board.labels) (λ v. cond (inside (place_nodes pattern board w r) v) (get_or (ball_table pattern board w r) v 0) 0)

-- the subgraph of a board that node bytes and link bytes mark
unfoldable pub marked_graph : Circuit → List ℕ → List ℕ → Graph
marked_graph board nodes links =
    record {
      Node = λ v. T (inside nodes v);
      Link = λ v v'. (i : ℕ) × LinkAt board.starts board.ends v v' i × T (inside links i);
    }
