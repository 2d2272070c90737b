-- Matching by kinds, from masks and neighbour tables that are prepared: whose links they are of need not be handed on.
use Rattle.std.specs.Prelude.{List, ℕ}
use Rattle.graph.specs.Circuit.{circuit}
use Rattle.table.specs.declared.Counts.{Counts}
use Rattle.table.specs.Answer.{AnsweredOn}
use Rattle.simulation.specs.Simulation.{Direction}
use Rattle.table.specs.Prepared.{Tables, PreparedBy}
use Rattle.table.specs.Refine.{MatchedBy}

-- the tables are those of a pattern and a board that have these kinds, and some links, for some directions
pub record SomeLinks (part_labels nodeLabels : List ℕ) (t : Tables) : Type 0 where
  pub ways : List Direction
  pub part_starts : List ℕ
  pub part_ends : List ℕ
  pub node_starts : List ℕ
  pub node_ends : List ℕ
  pub prepared : PreparedBy ways (circuit part_labels part_starts part_ends) (circuit nodeLabels node_starts node_ends) t

-- the match table and the counts, for every pattern and board with these kinds and every choice of directions that the tables are of
abbrev pub EveryMatched : List ℕ → List ℕ → Tables → List ℕ → Counts → Type 0
EveryMatched part_labels nodeLabels t table counts =
    (ways : List Direction) (part_starts part_ends node_starts node_ends : List ℕ) →
    PreparedBy ways (circuit part_labels part_starts part_ends) (circuit nodeLabels node_starts node_ends) t →
    MatchedBy ways (circuit part_labels part_starts part_ends) (circuit nodeLabels node_starts node_ends) table counts

-- the answer, which the all-0 rule makes of the table, so
abbrev pub EveryAnswered : List ℕ → List ℕ → Tables → List ℕ → Counts → Type 0
EveryAnswered part_labels nodeLabels t table counts =
    (ways : List Direction) (part_starts part_ends node_starts node_ends : List ℕ) →
    PreparedBy ways (circuit part_labels part_starts part_ends) (circuit nodeLabels node_starts node_ends) t →
    AnsweredOn ways (circuit part_labels part_starts part_ends) (circuit nodeLabels node_starts node_ends) table counts
