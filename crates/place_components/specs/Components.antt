-- The components of a match graph, each node with the number of its component: what naming them leaves, and what a search along all links gathers of
-- them. An adjacency function says what is joined to a node, directions ignored.
use Rattle.std.specs.Prelude.{◌≡◌, ◌≤◌, ◌<◌, ◌^◌}
use Rattle.base_lists.specs.Kit.{Bool, List, ℕ, length, get_or}
use Rattle.graph.specs.Bfs.{SearchState}
use Rattle.graph.specs.Circuit.{Circuit}
use Rattle.graph_search.specs.Until.{Until}
use Rattle.graph_gather.specs.Having.{having, numbered}
use Rattle.table.specs.Prepared.{Tables}
use Rattle.place.specs.Find.{Tabled}
use Rattle.place.specs.Spread.{Reached, Spread, Lists}

-- a table of sets of some pattern and board, over their tables
pub record MatchTable (t : Tables) (sets : List ℕ) : Type 0 where
  pub pattern : Circuit
  pub board : Circuit
  pub tabled : Tabled pattern board t
  pub long : length sets ≡ length board.labels
  pub small : (v : ℕ) → get_or sets v 0 < 2 ^ 32

-- ---- components by their numbers

-- The component of c among n nodes: the entries and the nodes that a search leaves, and how many they are.
pub record ComponentFound (n c : ℕ) (adj : ℕ → List ℕ) (size : ℕ) (comp nodes : List ℕ) : Type 0 where
  pub spread : Spread n c adj comp
  pub lists : Lists nodes comp
  pub count : length nodes ≡ size

-- Node v has the number of its component: that has all nodes with the number and no others, and under the number stands how many they are.
pub record ComponentAt (n : ℕ) (adj : ℕ → List ℕ) (componentOf sizes : List ℕ) (v : ℕ) : Type 0 where
  pub comp : List ℕ
  pub nodes : List ℕ
  pub component : ComponentFound n v adj (get_or sizes (get_or componentOf v 0) 0) comp nodes
  pub same : (w : ℕ) → w < n → Reached comp w → get_or componentOf w 0 ≡ get_or componentOf v 0
  pub only : (w : ℕ) → w < n → get_or componentOf w 0 ≡ get_or componentOf v 0 → Reached comp w

-- The nodes before f whose sets are not empty have numbers, and each node that has one has that of its component, which is a node before f.
pub record ComponentsBefore (n : ℕ) (adj : ℕ → List ℕ) (sets : List ℕ) (f : ℕ) (componentOf sizes : List ℕ) : Type 0 where
  pub long : length componentOf ≡ n
  pub sized : length sizes ≡ n
  pub done : (v : ℕ) → v < f → v < n → (get_or sets v 0 ≡ 0 → ⊥) → Reached componentOf v
  pub named : (v : ℕ) → v < n → Reached componentOf v → get_or componentOf v 0 < f
  pub numbered : (v : ℕ) → v < n → Reached componentOf v → ComponentAt n adj componentOf sizes v

-- Each node whose set is not empty has the number of its component, which is a node's number.
pub record Components (n : ℕ) (adj : ℕ → List ℕ) (sets componentOf sizes : List ℕ) : Type 0 where
  pub long : length componentOf ≡ n
  pub sized : length sizes ≡ n
  pub named : (v : ℕ) → v < n → (get_or sets v 0 ≡ 0 → ⊥) → get_or componentOf v 0 < n
  pub numbered : (v : ℕ) → v < n → (get_or sets v 0 ≡ 0 → ⊥) → ComponentAt n adj componentOf sizes v

-- ---- as far as the centre's number

-- a node has c's number
abbrev pub same_component : List ℕ → ℕ → ℕ → Bool
same_component componentOf c = numbered componentOf (get_or componentOf c 0)

-- Those that pass a test of the nodes that a search from c up to distance r reaches, or of the first of them, where so many of those pass it.
pub record Gathered (adj : ℕ → List ℕ) (n c r : ℕ) (p : ℕ → Bool) (size : ℕ) (nodes : List ℕ) : Type 0 where
  pub all : SearchState
  pub until : Until adj n c r (size ≤ length (having p all.reached)) all
  pub passed : nodes ≡ having p all.reached
