-- The ball around a centre, listed, and the pairs that agree there. Whose links the neighbour tables are of need not be handed on.
use Rattle.std.specs.Prelude.{◌≡◌, ◌≤◌}
use Rattle.base_lists.specs.Kit.{List, ℕ, length, take}
use Rattle.base_lists.specs.List.{Below}
use Rattle.graph.specs.Circuit.{Circuit, circuit}
use Rattle.graph.specs.Net.{NetOf}
use Rattle.table.specs.Fill.{marks_of, NodeList, table_at}
use Rattle.table.specs.First.{start_node}
use Rattle.place.specs.declared.Around.{Around}
use Rattle.place.specs.Match.{ball_of}

-- neighbour tables of a board whose links join its nodes
pub record Netted (board : Circuit) (offsets targets : List ℕ) : Type 0 where
  pub net : NetOf (length board.labels) board.starts board.ends offsets targets
  pub starts : Below (length board.labels) board.starts
  pub ends : Below (length board.labels) board.ends

-- this of a board that has these kinds, and some links
pub record SomeNetted (nodeLabels offsets targets : List ℕ) : Type 0 where
  pub node_starts : List ℕ
  pub node_ends : List ℕ
  pub netted : Netted (circuit nodeLabels node_starts node_ends) offsets targets

-- the first k entries of the queue are the ball's nodes, each once, and the table has the pairs that agree there
pub record Listed (part_labels : List ℕ) (board : Circuit) (around : Around) (queue first : List ℕ) (k : ℕ) : Type 0 where
  pub short : k ≤ length queue
  pub list : NodeList (length board.labels) (take k queue)
  pub ball : marks_of (length board.labels) (take k queue) ≡ ball_of board around.centre around.radius
  pub agree : first ≡ table_at (length board.labels) (start_node part_labels board.labels) (take k queue)

-- for every board with these kinds that the tables are of
abbrev pub EveryListed : List ℕ → List ℕ → List ℕ → List ℕ → Around → List ℕ → List ℕ → ℕ → Type 0
EveryListed part_labels nodeLabels offsets targets around queue first k =
    (node_starts node_ends : List ℕ) → Netted (circuit nodeLabels node_starts node_ends) offsets targets → Listed part_labels (circuit nodeLabels node_starts node_ends) around queue first k
