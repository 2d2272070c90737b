-- A circuit's graph. A circuit is given by how many nodes it has and by two parallel lists, the link starts and the link ends.
use Rattle.std.specs.Prelude.{◌≡◌, ◌<◌}
use Rattle.base_lists.specs.Kit.{List, ℕ, length, get_or}
use Rattle.graph.specs.Graph.{Graph}

-- The i-th link goes from the i-th start to the i-th end.
pub record LinkAt (starts ends : List ℕ) (v w i : ℕ) : Type 0 where
  pub in_starts : i < length starts
  pub in_ends : i < length ends
  pub start : get_or starts i 0 ≡ v
  pub end : get_or ends i 0 ≡ w

-- "A link goes from one node to another or to itself, from what drives to what is driven; .."
unfoldable pub HasLink : List ℕ → List ℕ → ℕ → ℕ → Type 0
HasLink starts ends v w = (i : ℕ) × LinkAt starts ends v w i

-- "A circuit has N nodes, numbered from 0, .. and M links."
unfoldable pub graph_of : ℕ → List ℕ → List ℕ → Graph
graph_of n starts ends = record { Node = λ v. v < n; Link = HasLink starts ends }

-- A circuit's content: the label of each node, and the links. "A pattern and a board are both circuits." A label is a node's kind and, where it has a package, 65,536
-- times that besides; the field has the name that document 01 gives to a file's first list.
pub record Circuit : Type 0 where
  pub labels : List ℕ
  pub starts : List ℕ
  pub ends : List ℕ

unfoldable pub circuit_graph : Circuit → Graph
circuit_graph c = graph_of (length c.labels) c.starts c.ends

abbrev pub circuit : List ℕ → List ℕ → List ℕ → Circuit
circuit labels starts ends = record { labels = labels; starts = starts; ends = ends }
