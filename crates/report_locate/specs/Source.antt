-- What the line of a centre is put from, what is known of the centre's ball and place, and that the line is put.
use Rattle.std.specs.Prelude.{◌≡◌, ◌≤◌, ◌<◌}
use Rattle.base_lists.specs.Kit.{Bool, false, true, List, ℕ, T, length, get_or, take}
use Rattle.base_text.specs.Text.{Put}
use Rattle.graph.specs.Circuit.{Circuit}
use Rattle.graph.specs.Search.{inside}
use Rattle.file_format.specs.Circuit.{Drawn}
use Rattle.table.specs.Fill.{marks_of, NodeList}
use Rattle.table.specs.Host.{everything}
use Rattle.table.specs.Row.{last_table}
use Rattle.table.specs.Prepared.{Tables, Prepared}
use Rattle.place.specs.declared.Around.{Around}
use Rattle.place.specs.Find.{Located, Seen}
use Rattle.place.specs.Match.{radius_of, ball_of, found}
use Rattle.place.specs.Spread.{matched, Reached, Spread, Lists}
use Rattle.place_components.specs.Components.{ComponentFound}
use Rattle.report.specs.Report.{centre_line}
use Rattle.report_locate.specs.declared.ComponentHeld.{ComponentHeld}

-- what a line is put from: the circuits, what the rounds look up, the whole board's table and the pattern's radius
pub record Source (pattern board : Circuit) (t : Tables) (table : List ℕ) (r : ℕ) : Type 0 where
  pub drawn : Drawn pattern board
  pub ready : Prepared pattern board t
  pub whole : table ≡ last_table pattern board (everything board)
  pub own : r ≡ radius_of pattern

-- this of some pattern and board
pub record SourceOfSome (t : Tables) (table : List ℕ) (r : ℕ) : Type 0 where
  pub pattern : Circuit
  pub board : Circuit
  pub source : Source pattern board t table r

-- The centre's component in the whole board's match graph, which has `size` nodes: those with the centre's number.
pub record CentreLabelled (t : Tables) (table componentOf : List ℕ) (size c : ℕ) : Type 0 where
  pub low : c < length table
  pub long : length componentOf ≡ length table
  pub comp : List ℕ
  pub nodes : List ℕ
  pub component : ComponentFound (length table) c (matched t table) size comp nodes
  pub same : (v : ℕ) → v < length table → Reached comp v → get_or componentOf v 0 ≡ get_or componentOf c 0
  pub only : (v : ℕ) → v < length table → get_or componentOf v 0 ≡ get_or componentOf c 0 → Reached comp v

-- The ball around the centre holds the centre's component, of every pattern and board that a line is put from.
abbrev pub EveryHeld : Tables → List ℕ → Around → Type 0
EveryHeld t table around =
    (pattern board : Circuit) → Source pattern board t table around.radius → (comp : List ℕ) → Spread (length table) around.centre (matched t table) comp
    → (v : ℕ) → v < length board.labels → Reached comp v → T (inside (ball_of board around.centre around.radius) v)

-- The place around the centre comes from the graph of some nodes,
pub record Cut (pattern board : Circuit) (t : Tables) (around : Around) (nodes : List ℕ) : Type 0 where
  pub list : NodeList (length board.labels) nodes
  pub seen : Seen pattern board t around.centre around.radius (marks_of (length board.labels) nodes)

-- of every such pattern and board.
abbrev pub EveryCut : Tables → List ℕ → Around → List ℕ → Type 0
EveryCut t table around nodes = (pattern board : Circuit) → Source pattern board t table around.radius → Cut pattern board t around nodes

-- the nodes of the centre's component, where the ball holds it
pub record Entire (t : Tables) (table : List ℕ) (around : Around) (nodes : List ℕ) : Type 0 where
  pub comp : List ℕ
  pub spread : Spread (length table) around.centre (matched t table) comp
  pub lists : Lists nodes comp
  pub held : EveryHeld t table around

-- what is known of a ball: the first nodes of the queue are the centre's component, which the ball holds, or the place comes from them
pub record BallHolds (t : Tables) (table : List ℕ) (around : Around) (queue : List ℕ) (h : ComponentHeld) : Type 0 where
  pub short : h.kept ≤ length queue
  pub whole : h.all ≡ true → Entire t table around (take h.kept queue)
  pub cut : h.all ≡ false → EveryCut t table around (take h.kept queue)

-- what is known of a centre: whether there is a place around it, and then the place in the tables
pub record PlaceKnown (pattern board : Circuit) (t : Tables) (around : Around) (dist sets : List ℕ) (b : Bool) : Type 0 where
  pub answer : b ≡ found pattern board around.centre around.radius
  pub nodes : List ℕ
  pub there : b ≡ true → Located pattern board t around.centre around.radius dist sets nodes

-- this of every pattern and board that a line is put from
abbrev pub EveryKnown : Tables → List ℕ → Around → List ℕ → List ℕ → Bool → Type 0
EveryKnown t table around dist sets b =
    (pattern board : Circuit) → Source pattern board t table around.radius → PlaceKnown pattern board t around dist sets b

-- the centre's line is put, of every such pattern and board
abbrev pub EveryLine : Tables → List ℕ → Around → List ℕ → ℕ → List ℕ → ℕ → Type 0
EveryLine t table around before at after next =
    (pattern board : Circuit) → Source pattern board t table around.radius → Put before at (centre_line pattern board around.centre) after next
