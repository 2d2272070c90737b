-- The place of a pattern and a board that were read, from the kinds and from tables.
use Rattle.std.specs.Prelude.{◌≡◌, Result}
use Rattle.base_lists.specs.Kit.{List, ℕ}
use Rattle.graph.specs.Circuit.{Circuit, circuit}
use Rattle.file_format.specs.Circuit.{Drawn}
use Rattle.table.specs.declared.Counts.{Counts}
use Rattle.table.specs.Prepared.{Tables, Prepared}
use Rattle.place.specs.declared.NoPlace.{NoPlace}
use Rattle.place.specs.Outcome.{PlaceOutcome, place_reply}

-- the tables are those of a pattern and a board that were read, with these kinds and some links
pub record SomeDrawn (part_labels nodeLabels : List ℕ) (t : Tables) : Type 0 where
  pub part_starts : List ℕ
  pub part_ends : List ℕ
  pub node_starts : List ℕ
  pub node_ends : List ℕ
  pub drawn : Drawn (circuit part_labels part_starts part_ends) (circuit nodeLabels node_starts node_ends)
  pub prepared : Prepared (circuit part_labels part_starts part_ends) (circuit nodeLabels node_starts node_ends) t

-- an answer, and what the four tables are left with
abbrev pub placed_as : Result Counts NoPlace → List ℕ → List ℕ → List ℕ → List ℕ → PlaceOutcome
placed_as a nodes links table distances =
    record { reply = place_reply a; nodes = nodes; links = links; table = table; distances = distances }

-- what a call leaves is what `outcome` says of every such pattern and board
abbrev pub EveryDrawn : List ℕ → List ℕ → Tables → PlaceOutcome → (Circuit → Circuit → PlaceOutcome) → Type 0
EveryDrawn part_labels nodeLabels t left outcome =
    (part_starts part_ends node_starts node_ends : List ℕ) →
    Drawn (circuit part_labels part_starts part_ends) (circuit nodeLabels node_starts node_ends) →
    Prepared (circuit part_labels part_starts part_ends) (circuit nodeLabels node_starts node_ends) t →
    left ≡ outcome (circuit part_labels part_starts part_ends) (circuit nodeLabels node_starts node_ends)
