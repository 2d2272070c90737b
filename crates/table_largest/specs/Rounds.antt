-- Rounds of striking over neighbour tables and masks, and when a list has all nodes that change in a round: what the contracts here cite.
-- proofs/Row ties the rounds to the row of sets.
use Rattle.std.specs.Prelude.{◌≡◌, ◌↔◌, ◌≤◌, ◌<◌}
use Rattle.base_lists.specs.Kit.{false, List, ℕ, suc, zero, length, get_or}
use Rattle.base_lists.specs.List.{tabulate, Occurs, Below}
use Rattle.graph.specs.Net.{driven, driving}
use Rattle.table.specs.Fill.{listed}
use Rattle.table_row.specs.Row.{Falls}
use Rattle.table.specs.Row.{pairs}
use Rattle.table.specs.Prepared.{Tables, Ready}
use Rattle.table_strike.specs.Strike.{strike_node}

-- one round: each next set from the last table whole
unfoldable pub strike_table : Tables → List ℕ → List ℕ
strike_table t old = tabulate (length old) (strike_node t old)

-- k rounds
unfoldable pub strike_times : Tables → List ℕ → ℕ → List ℕ
strike_times t old zero = old
strike_times t old (suc k) = strike_table t (strike_times t old k)

-- ---- only what may change is looked at

-- what a node drives it is driven by, in the two neighbour tables
unfoldable pub MutualTables : Tables → ℕ → Type 0
MutualTables t n = (v w : ℕ) → v < n → w < n → Occurs (driven t.offsets t.targets v) w ↔ Occurs (driving t.offsets t.targets w) v

-- a node that is not in the list keeps its set in the next round
unfoldable pub Covers : Tables → List ℕ → List ℕ → Type 0
Covers t old todo = (v : ℕ) → v < length old → listed todo v ≡ false → strike_node t old v ≡ get_or old v 0

-- A list of nodes to look at: it has each node that changes.
pub record Due (t : Tables) (old todo : List ℕ) : Type 0 where
  pub ready : Ready t old
  pub both : MutualTables t (length old)
  pub covers : Covers t old todo
  pub below : Below (length old) todo
  pub few : length todo ≤ length old

-- Where the rounds stand: `old` is the table after some rounds, each of which struck a pair.
pub record Round (t : Tables) (start old : List ℕ) (kept rounds : ℕ) : Type 0 where
  pub table : old ≡ strike_times t start rounds
  pub falls : Falls pairs (strike_times t start) rounds
  pub count : kept ≡ pairs old

-- What striking round after round from a table comes to: the table after as many rounds as struck a pair, which one more would not change.
pub record Settled (t : Tables) (start last : List ℕ) (kept rounds : ℕ) : Type 0 where
  pub table : last ≡ strike_times t start rounds
  pub stops : strike_table t last ≡ last
  pub falls : Falls pairs (strike_times t start) rounds
  pub count : kept ≡ pairs last
