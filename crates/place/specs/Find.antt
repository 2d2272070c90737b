-- Finding the place around a centre from a first table: what it starts from, and what it leaves, before anything is written out.
use Rattle.std.specs.Prelude.{◌≡◌, ◌≤◌, ◌<◌, Some}
use Rattle.std.specs.Option.{is_some}
use Rattle.base_lists.specs.Kit.{false, true, List, ℕ, length, get_or, take}
use Rattle.base_lists.specs.List.{Below}
use Rattle.graph.specs.Circuit.{Circuit}
use Rattle.table.specs.Fill.{marks_of, NodeList}
use Rattle.table.specs.First.{Begins}
use Rattle.table.specs.Prepared.{succ_of, Tables, Prepared, Ready}
use Rattle.table.specs.Refine.{Rested}
use Rattle.table.specs.Row.{last_table}
use Rattle.place.specs.declared.PlaceFound.{PlaceFound}
use Rattle.place.specs.Bytes.{bytes_of_nodes, node_sets, bytes_of_links}
use Rattle.place.specs.Match.{found, place_nodes, place_links, place_table}
use Rattle.place.specs.Spread.{matched, Spread, Lists}

-- tables of a pattern and of a board whose links join its nodes
pub record Tabled (pattern board : Circuit) (t : Tables) : Type 0 where
  pub prepared : Prepared pattern board t
  pub parallel : length pattern.starts ≡ length pattern.ends
  pub starts : Below (length board.labels) board.starts
  pub ends : Below (length board.labels) board.ends

-- Where there is a place: `dist` is `far` outside it, `sets` has the place's sets at its nodes, and the list has the place's nodes.
pub record Located (pattern board : Circuit) (t : Tables) (w r : ℕ) (dist sets nodes : List ℕ) : Type 0 where
  pub bytes : bytes_of_nodes dist ≡ place_nodes pattern board w r
  pub links : bytes_of_links board.starts board.ends (succ_of t.masks) dist sets ≡ place_links pattern board w r
  pub table : node_sets dist sets ≡ place_table pattern board w r
  pub lists : Lists nodes dist
  pub size : length dist ≡ length board.labels
  pub long : length sets ≡ length board.labels
  pub ready : Ready t sets

-- The place around w at radius r comes from the graph that has the nodes taken: there is one exactly where the last set has a part at w, and then what
-- matching links join to w there is the place. The ball is such a graph, and so are those of its nodes that lie in w's component on the whole board.
pub record Seen (pattern board : Circuit) (t : Tables) (w r : ℕ) (taken : List ℕ) : Type 0 where
  pub none : get_or (last_table pattern board taken) w 0 ≡ 0 → found pattern board w r ≡ false
  pub some : (get_or (last_table pattern board taken) w 0 ≡ 0 → ⊥) → found pattern board w r ≡ true
  pub there :
      (dist place : List ℕ) → Spread (length board.labels) w (matched t (last_table pattern board taken)) dist → Lists place dist →
      Located pattern board t w r dist (last_table pattern board taken) place

-- What finding starts from: such tables, a list of nodes from whose graph the place around w at radius r comes, and a first table to begin with in that
-- graph.
pub record Sought (pattern board : Circuit) (t : Tables) (w r : ℕ) (nodes first : List ℕ) : Type 0 where
  pub tabled : Tabled pattern board t
  pub centre : w < length board.labels
  pub list : NodeList (length board.labels) nodes
  pub seen : Seen pattern board t w r (marks_of (length board.labels) nodes)
  pub begins : Begins pattern board (marks_of (length board.labels) nodes) first

-- this of some pattern, board and radius
pub record SoughtBySome (t : Tables) (w : ℕ) (nodes first : List ℕ) : Type 0 where
  pub pattern : Circuit
  pub board : Circuit
  pub radius : ℕ
  pub sought : Sought pattern board t w radius nodes first

-- What finding comes to: where the rounds end in the ball, whether there is a place, and then the place in the tables, by how many nodes it has.
pub record FoundIn (pattern board : Circuit) (t : Tables) (w r : ℕ) (nodes first dist queue sets : List ℕ) (a : PlaceFound) : Type 0 where
  pub rested : Rested pattern board (marks_of (length board.labels) nodes) first sets a.rest
  pub answer : is_some a.size ≡ found pattern board w r
  pub short : (k : ℕ) → a.size ≡ Some k → k ≤ length queue
  pub there : (k : ℕ) → a.size ≡ Some k → Located pattern board t w r dist sets (take k queue)

-- this of every pattern, board and radius that finding starts from
abbrev pub Finds : Tables → ℕ → List ℕ → List ℕ → List ℕ → List ℕ → List ℕ → PlaceFound → Type 0
Finds t w nodes first dist queue sets a =
    (pattern board : Circuit) (r : ℕ) → Sought pattern board t w r nodes first → FoundIn pattern board t w r nodes first dist queue sets a
