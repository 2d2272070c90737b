-- What the refinement of a first table to the last set of the row promises, for the directions that the tables are of.
use Rattle.std.specs.Prelude.{◌≡◌, ◌-◌}
use Rattle.base_lists.specs.Kit.{List, ℕ, length}
use Rattle.graph.specs.Circuit.{Circuit}
use Rattle.table.specs.Fill.{marks_of}
use Rattle.table.specs.First.{BeginsBy}
use Rattle.table.specs.Host.{everything}
use Rattle.table.specs.Prepared.{Tables, PreparedBy}
use Rattle.simulation.specs.Simulation.{Direction}
use Rattle.table.specs.Row.{both_directions, start_by, last_by, started_by, kept_by, struck_by, rounds_by}
use Rattle.table.specs.declared.Counts.{Counts}
use Rattle.table.specs.declared.Rest.{Rest}

-- "The call returns four counts: started, the pairs of R0; kept, the pairs left; struck, started minus kept; rounds, how many sets differ
-- from the one before."
unfoldable pub counts_by : List Direction → Circuit → Circuit → List ℕ → Counts
counts_by ways pattern host taken =
    record {
      started = started_by ways pattern host taken;
      kept = kept_by ways pattern host taken;
      struck = struck_by ways pattern host taken;
      rounds = rounds_by ways pattern host taken;
    }

abbrev pub counts_of : Circuit → Circuit → List ℕ → Counts
counts_of pattern host taken = counts_by both_directions pattern host taken

-- ---- from a first table

-- The tables are those of some directions, some pattern and some circuit, and the first table is one to begin with in the circuit's part that has the listed
-- nodes.
pub record TablesKnown (t : Tables) (nodes first : List ℕ) : Type 0 where
  pub ways : List Direction
  pub pattern : Circuit
  pub host : Circuit
  pub prepared : PreparedBy ways pattern host t
  pub begins : BeginsBy ways pattern host (marks_of (length host.labels) nodes) first

-- What a first table comes to: the table of the row's last set. The rounds are the row's where the first table is.
pub record RestedBy (ways : List Direction) (pattern host : Circuit) (taken first end : List ℕ) (rest : Rest) : Type 0 where
  pub last : end ≡ last_by ways pattern host taken
  pub kept : rest.kept ≡ kept_by ways pattern host taken
  pub rounds : first ≡ start_by ways pattern host taken → rest.rounds ≡ rounds_by ways pattern host taken

abbrev pub Rested : Circuit → Circuit → List ℕ → List ℕ → List ℕ → Rest → Type 0
Rested pattern host taken first end rest = RestedBy both_directions pattern host taken first end rest

-- this holds of every choice of directions, every pattern and every circuit that the tables are of and that the first table is one to begin with in
abbrev pub Refines : Tables → List ℕ → List ℕ → List ℕ → Rest → Type 0
Refines t nodes first end rest =
    (ways : List Direction) (pattern host : Circuit) → PreparedBy ways pattern host t → BeginsBy ways pattern host (marks_of (length host.labels) nodes) first →
    RestedBy ways pattern host (marks_of (length host.labels) nodes) first end rest

-- ---- the four counts

-- the counts, from the pairs at first and where the rounds end
abbrev pub counts_from : ℕ → Rest → Counts
counts_from started rest = record { started = started; kept = rest.kept; struck = started - rest.kept; rounds = rest.rounds }

-- the four counts, and the table of the row's last set
pub record RefinedBy (ways : List Direction) (pattern host : Circuit) (taken table : List ℕ) (counts : Counts) : Type 0 where
  pub counted : counts ≡ counts_by ways pattern host taken
  pub last : table ≡ last_by ways pattern host taken

-- the four counts and the table of the row's last set, over the whole board
abbrev pub MatchedBy : List Direction → Circuit → Circuit → List ℕ → Counts → Type 0
MatchedBy ways pattern board table counts = RefinedBy ways pattern board (everything board) table counts

abbrev pub MatchedOn : Circuit → Circuit → List ℕ → Counts → Type 0
MatchedOn pattern board table counts = MatchedBy both_directions pattern board table counts
