-- Two files that were opened for their report: what a piece is put from, so that the pieces of a long report read and match once.
use Rattle.std.specs.Prelude.{◌≡◌, ◌≤◌, Result, Ok}
use Rattle.base_lists.specs.Kit.{List, ℕ, length, take}
use Rattle.graph.specs.Circuit.{Circuit}
use Rattle.file_format.specs.declared.Refusal.{Refusal}
use Rattle.file_format.specs.declared.Role.TheVariants.{Pattern}
use Rattle.file_format.specs.Circuit.{circuit_of, Drawn}
use Rattle.file_format.specs.Layout.{CircuitFile}
use Rattle.file_format.specs.Reply as Reply
use Rattle.file_format.specs.Refusals.{first}
use Rattle.file_pair.specs.declared.Pair.{Pair}
use Rattle.file_pair.specs.Pair.{pair_conditions}
use Rattle.table.specs.Prepared.{Tables}
use Rattle.table.specs.Row.{both_directions}
use Rattle.place.specs.Spread.{matched}
use Rattle.place_components.specs.Components.{Components}
use Rattle.report_locate.specs.Source.{Source}
use Rattle.call_prepare.specs.Read.{BothPrepared}

-- what lines are put from: the whole board's table, and its components by their numbers
pub record Lines (pattern board : Circuit) (r : ℕ) (t : Tables) (whole componentOf sizes : List ℕ) : Type 0 where
  pub source : Source pattern board t whole r
  pub components : Components (length whole) (matched t whole) whole componentOf sizes

-- Both files were accepted: where there are lines from a centre on, what they are put from stands at the fronts of the tables.
pub record OpenedBoth (from : ℕ) (pattern board : Circuit) (read : Pair) (t : Tables) (whole componentOf sizes : List ℕ) : Type 0 where
  pub drawn : Drawn pattern board
  pub nodes : read.nodes ≡ length board.labels
  pub room : (read.nodes ≤ length whole) × (read.nodes ≤ length componentOf) × (read.nodes ≤ length sizes)
  pub lines : from ≤ read.nodes → Lines pattern board read.radius t (take read.nodes whole) (take read.nodes componentOf) (take read.nodes sizes)

-- room for the lines of any board
abbrev pub LinesRoom : List ℕ → List ℕ → List ℕ → Type 0
LinesRoom whole componentOf sizes = (length whole ≡ 512) × (length componentOf ≡ 512) × (length sizes ≡ 512)

-- two files were opened for the pieces from a centre on
pub record Opened (from : ℕ) (pattern board : CircuitFile) (read : Result Pair Refusal) (t : Tables) (whole componentOf sizes : List ℕ) : Type 0 where
  pub verdict : Reply.verdict_of read ≡ first (pair_conditions Pattern pattern board)
  pub both : (pair : Pair) → read ≡ Ok pair → OpenedBoth from (circuit_of pattern) (circuit_of board) pair t whole componentOf sizes

-- this of some two files
pub record SomeOpened (from : ℕ) (read : Result Pair Refusal) (t : Tables) (whole componentOf sizes : List ℕ) : Type 0 where
  pub pattern : CircuitFile
  pub board : CircuitFile
  pub opened : Opened from pattern board read t whole componentOf sizes

-- some two accepted files were read and prepared,
pub record SomePrepared (read : Pair) (part_labels nodeLabels : List ℕ) (t : Tables) : Type 0 where
  pub pattern : CircuitFile
  pub board : CircuitFile
  pub prepared : BothPrepared Pattern both_directions pattern board read part_labels nodeLabels t

-- and every two that were have their lines
abbrev pub EveryOpened : ℕ → Pair → List ℕ → List ℕ → Tables → List ℕ → List ℕ → List ℕ → Type 0
EveryOpened from read part_labels nodeLabels t whole componentOf sizes =
    (pattern board : CircuitFile) → BothPrepared Pattern both_directions pattern board read part_labels nodeLabels t
    → OpenedBoth from (circuit_of pattern) (circuit_of board) read t whole componentOf sizes
