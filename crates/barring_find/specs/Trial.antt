-- What a trial starts from, in the ball around a centre, and what it says. Whose kinds the first table is of need not be handed on: the contracts
-- ask for some pattern and board, and promise for every one.
use Rattle.std.specs.Prelude.{◌≡◌, ◌≤◌, ◌<◌, Result}
use Rattle.base_lists.specs.Kit.{Bool, List, ℕ, eqb, length, get_or}
use Rattle.graph.specs.Circuit.{Circuit, circuit}
use Rattle.graph.specs.Net.{NetOf}
use Rattle.file_format.specs.declared.Refusal.{Refusal}
use Rattle.file_format.specs.declared.Role.TheVariants as role
use Rattle.file_format.specs.Circuit.{Bounded}
use Rattle.file_format.specs.Reply.{number_reply}
use Rattle.table.specs.Fill.{marks_of, NodeList, table_at}
use Rattle.table.specs.First.{start_node}
use Rattle.table.specs.Prepared.{Tables, Prepared}
use Rattle.table.specs.Row.{last_table}
use Rattle.place.specs.Match.{ball_of}
use Rattle.barring.specs.Least.{bars, least}
use Rattle.barring.specs.Outcome.{bar_around}

-- ---- striking from the pairs that agree

-- tables of a pattern and a board, the list of the nodes that are taken, and the pairs that agree there
pub record TrialBegun (pattern board : Circuit) (t : Tables) (nodes first : List ℕ) : Type 0 where
  pub prepared : Prepared pattern board t
  pub list : NodeList (length board.labels) nodes
  pub agree : first ≡ table_at (length board.labels) (start_node pattern.labels board.labels) nodes

pub record SomeBegun (t : Tables) (nodes first : List ℕ) : Type 0 where
  pub pattern : Circuit
  pub board : Circuit
  pub begun : TrialBegun pattern board t nodes first

-- whether node w is in no pair at the end
abbrev pub EveryEmpty : Tables → List ℕ → List ℕ → ℕ → Bool → Type 0
EveryEmpty t nodes first w empty =
    (pattern board : Circuit) → TrialBegun pattern board t nodes first → empty ≡ eqb (get_or (last_table pattern board (marks_of (length board.labels) nodes)) w 0) 0

-- ---- a trial

-- a pattern and a board that were read, the board's neighbour tables, the list of the nodes in the ball around w at radius r, and the pairs that
-- agree there
pub record Tried (pattern board : Circuit) (offsets targets : List ℕ) (w r : ℕ) (nodes first : List ℕ) : Type 0 where
  pub parts : Bounded role.Pattern pattern
  pub most : length board.labels ≤ 512
  pub net : NetOf (length board.labels) board.starts board.ends offsets targets
  pub centre : w < length board.labels
  pub list : NodeList (length board.labels) nodes
  pub ball : marks_of (length board.labels) nodes ≡ ball_of board w r
  pub agree : first ≡ table_at (length board.labels) (start_node pattern.labels board.labels) nodes

pub record SomeTried (starts ends offsets targets : List ℕ) (w : ℕ) (nodes first : List ℕ) : Type 0 where
  pub part_labels : List ℕ
  pub board : Circuit
  pub radius : ℕ
  pub tried : Tried (circuit part_labels starts ends) board offsets targets w radius nodes first

-- whether the chosen links bar
abbrev pub EveryBars : List ℕ → List ℕ → List ℕ → List ℕ → ℕ → List ℕ → List ℕ → List ℕ → Bool → Type 0
EveryBars starts ends offsets targets w nodes first marks answer =
    (part_labels : List ℕ) (board : Circuit) (r : ℕ) → Tried (circuit part_labels starts ends) board offsets targets w r nodes first →
    answer ≡ bars (circuit part_labels starts ends) board w r marks

-- the links that are kept
abbrev pub EveryLeast : List ℕ → List ℕ → List ℕ → List ℕ → ℕ → List ℕ → List ℕ → List ℕ → Type 0
EveryLeast starts ends offsets targets w nodes first marks =
    (part_labels : List ℕ) (board : Circuit) (r : ℕ) → Tried (circuit part_labels starts ends) board offsets targets w r nodes first →
    marks ≡ least (circuit part_labels starts ends) board w r

-- the answer, and what is left in the lent bytes
abbrev pub EveryAround : List ℕ → List ℕ → List ℕ → List ℕ → ℕ → List ℕ → List ℕ → List ℕ → List ℕ → Result ℕ Refusal → Type 0
EveryAround starts ends offsets targets w nodes first before after answer =
    (part_labels : List ℕ) (board : Circuit) (r : ℕ) → Tried (circuit part_labels starts ends) board offsets targets w r nodes first →
    record { reply = number_reply answer; out = after } ≡ bar_around (circuit part_labels starts ends) board w r before
