-- The radius call and the ball lookup, whole: the reply, and the lent table's later content, from the inputs alone.
use Rattle.std.specs.Prelude.{◌∷◌, ◌++◌}
use Rattle.base_lists.specs.Kit.{List, [], ℕ, length}
use Rattle.graph.specs.Circuit.{graph_of}
use Rattle.graph.specs.Graph.{Graph}
use Rattle.graph.specs.Search.{distances, radius}
use Rattle.file_format.specs.declared.Role.TheVariants.{Pattern, Board}
use Rattle.file_format.specs.Layout.{CircuitFile, nodes_of, starts_of, ends_of}
use Rattle.file_format.specs.Reading.{filled}
use Rattle.file_format.specs.Refusals.{Condition, first, file_conditions, centre_outside, short_table}
use Rattle.file_format.specs.Reply.{Reply, reply}

-- ---- the radius: "A call replies with it."

-- refused by the pattern's 1 to 6 and 11
unfoldable pub radius_call : CircuitFile → Reply
radius_call file = reply (first (file_conditions Pattern file)) (radius (nodes_of file) (starts_of file) (ends_of file) ∷ [])

-- ---- the ball lookup: it "takes a board, a centre and a radius .. it replies with N" and "fills N entries of 16 bits in place of its bytes:
-- each node's distance from the centre, and 65,535 for a node outside the ball" (document 02, Ask 2)

-- the board's 1 to 5, then 7 for the centre and 8 for the table: "Needed: .. ball N"
unfoldable pub ball_conditions : CircuitFile → ℕ → ℕ → List Condition
ball_conditions file centre lent =
    file_conditions Board file ++ (centre_outside (nodes_of file) centre ∷ short_table (nodes_of file) lent ∷ [])

-- what is filled in for the nodes
unfoldable pub ball_entries : CircuitFile → ℕ → ℕ → List ℕ
ball_entries file centre r = distances (nodes_of file) (starts_of file) (ends_of file) centre r

-- the reply, and the table as the call leaves it
pub record BallOutcome : Type 0 where
  pub reply : Reply
  pub out : List ℕ

unfoldable pub ball_call : CircuitFile → ℕ → ℕ → List ℕ → BallOutcome
ball_call file centre r out =
    let verdict = first (ball_conditions file centre (length out)) in
    record { reply = reply verdict (nodes_of file ∷ []); out = filled verdict (ball_entries file centre r) out }

-- ---- what the two speak of

-- the graph of a circuit file
abbrev pub file_graph : CircuitFile → Graph
file_graph file = graph_of (nodes_of file) (starts_of file) (ends_of file)
