-- Finding in the ball around a centre, from the kinds and from tables: whose links these are of need not be handed on,
-- and every pattern and board that they are of has the same place.
use Rattle.std.specs.Prelude.{◌≡◌, ◌≤◌, Some}
use Rattle.std.specs.Option.{is_some}
use Rattle.base_lists.specs.Kit.{List, ℕ, length, take}
use Rattle.graph.specs.Circuit.{Circuit, circuit}
use Rattle.table.specs.Prepared.{Tables}
use Rattle.table.specs.Refine.{counts_of}
use Rattle.place.specs.declared.Around.{Around}
use Rattle.place.specs.Find.{Tabled, Located}
use Rattle.place.specs.Match.{ball_of, distances_of, found}
use Rattle.place_ball.specs.declared.InBall.{InBall}

-- the tables are those of a pattern and a board that have these kinds, and some links
pub record SomeTabled (part_labels nodeLabels : List ℕ) (t : Tables) : Type 0 where
  pub part_starts : List ℕ
  pub part_ends : List ℕ
  pub node_starts : List ℕ
  pub node_ends : List ℕ
  pub tabled : Tabled (circuit part_labels part_starts part_ends) (circuit nodeLabels node_starts node_ends) t

-- the ball's counts and distances, whether there is a place, and then the place in the tables, by another search's
-- entries
pub record PlacedIn (pattern board : Circuit) (t : Tables) (around : Around) (dist queue sets : List ℕ) (a : InBall) : Type 0 where
  pub counted : a.counts ≡ counts_of pattern board (ball_of board around.centre around.radius)
  pub answer : is_some a.size ≡ found pattern board around.centre around.radius
  pub short : (k : ℕ) → a.size ≡ Some k → k ≤ length queue
  pub measured : dist ≡ distances_of board around.centre around.radius
  pub there : (k : ℕ) → a.size ≡ Some k → (joined : List ℕ) × Located pattern board t around.centre around.radius joined sets (take k queue)

-- this for every pattern and board with these kinds that the tables are of
abbrev pub EveryPlaced : List ℕ → List ℕ → Tables → Around → List ℕ → List ℕ → List ℕ → InBall → Type 0
EveryPlaced part_labels nodeLabels t around dist queue sets a =
    (part_starts part_ends node_starts node_ends : List ℕ) →
    Tabled (circuit part_labels part_starts part_ends) (circuit nodeLabels node_starts node_ends) t →
    PlacedIn (circuit part_labels part_starts part_ends) (circuit nodeLabels node_starts node_ends) t around dist queue sets a
