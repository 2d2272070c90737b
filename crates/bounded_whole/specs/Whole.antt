-- The row of a pattern with bounds on a whole board: what the functions below the answer promise.
use Rattle.std.specs.Prelude.{◌≡◌}
use Rattle.base_lists.specs.Kit.{List, ℕ}
use Rattle.graph.specs.Circuit.{Circuit, circuit}
use Rattle.table_row.specs.Row.{started_of, last_of, kept_of, struck_of, rounds_of}
use Rattle.table.specs.declared.Counts.{Counts}
use Rattle.table.specs.Prepared.{Tables}
use Rattle.bounded.specs.Problem.{bounded_problem}
use Rattle.bounded_strike.specs.Prepared.{BoundPrepared}

-- the counts of the row
unfoldable pub counts_of_row : Circuit → List ℕ → Circuit → Counts
counts_of_row pattern bounds board =
    let p = bounded_problem pattern bounds board in
    record { started = started_of p; kept = kept_of p; struck = struck_of p; rounds = rounds_of p }

-- the row's last set, and its counts
pub record BoundedRow (pattern : Circuit) (bounds : List ℕ) (board : Circuit) (table : List ℕ) (counts : Counts) : Type 0 where
  pub counted : counts ≡ counts_of_row pattern bounds board
  pub last : table ≡ last_of (bounded_problem pattern bounds board)

-- the tables are those of a pattern and a board that have these kinds, and some links and bounds
pub record SomeBoundedPattern (part_labels nodeLabels : List ℕ) (t : Tables) (top : ℕ) : Type 0 where
  pub part_starts : List ℕ
  pub part_ends : List ℕ
  pub bounds : List ℕ
  pub node_starts : List ℕ
  pub node_ends : List ℕ
  pub prepared : BoundPrepared (circuit part_labels part_starts part_ends) bounds (circuit nodeLabels node_starts node_ends) t top

-- the row's end, for every pattern and board with these kinds that the tables are of
abbrev pub EveryRow : List ℕ → List ℕ → Tables → ℕ → List ℕ → Counts → Type 0
EveryRow part_labels nodeLabels t top table counts =
    (part_starts part_ends bounds node_starts node_ends : List ℕ) →
    BoundPrepared (circuit part_labels part_starts part_ends) bounds (circuit nodeLabels node_starts node_ends) t top →
    BoundedRow (circuit part_labels part_starts part_ends) bounds (circuit nodeLabels node_starts node_ends) table counts
