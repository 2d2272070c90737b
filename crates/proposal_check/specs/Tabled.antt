-- Testing a board against its own place, from kinds, links and tables: whose masks these are need not be handed on.
use Rattle.std.specs.Prelude.{◌≡◌}
use Rattle.base_lists.specs.Kit.{Bool, true, List, ℕ, length}
use Rattle.graph.specs.Circuit.{Circuit, circuit}
use Rattle.table.specs.Prepared.{Tables}
use Rattle.place.specs.Find.{Tabled, Located}
use Rattle.place.specs.Match.{found}
use Rattle.proposal.specs.Check.{fills}

-- the tables are those of the board and of a pattern that has these kinds, and some links
pub record SomePattern (part_labels : List ℕ) (board : Circuit) (t : Tables) : Type 0 where
  pub part_starts : List ℕ
  pub part_ends : List ℕ
  pub tabled : Tabled (circuit part_labels part_starts part_ends) board t

-- the answer is that of every pattern with these kinds that the tables are of
abbrev pub EveryFills : List ℕ → Circuit → Tables → ℕ → List ℕ → Bool → Type 0
EveryFills part_labels board t w nodes a =
    (part_starts part_ends : List ℕ) → Tabled (circuit part_labels part_starts part_ends) board t → a ≡ fills (circuit part_labels part_starts part_ends) board w nodes

-- Whether there is a place around w among all that links join to w, and then the place in the tables.
pub record JoinedIn (pattern board : Circuit) (t : Tables) (w : ℕ) (dist sets : List ℕ) (a : Bool) : Type 0 where
  pub answer : a ≡ found pattern board w (length board.labels)
  pub there : a ≡ true → (list : List ℕ) × Located pattern board t w (length board.labels) dist sets list

-- this for every pattern and board with these kinds that the tables are of
abbrev pub EveryJoined : List ℕ → List ℕ → Tables → ℕ → List ℕ → List ℕ → Bool → Type 0
EveryJoined part_labels nodeLabels t w dist sets a =
    (part_starts part_ends node_starts node_ends : List ℕ) →
    Tabled (circuit part_labels part_starts part_ends) (circuit nodeLabels node_starts node_ends) t →
    JoinedIn (circuit part_labels part_starts part_ends) (circuit nodeLabels node_starts node_ends) t w dist sets a
