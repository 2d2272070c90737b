-- The neighbour tables of a graph of at most 512 nodes and 4,096 links, as they are handed on: one list has the offsets of the forward
-- table and then those of the backward one, with room for 513 each; another has the two link tables, with room for 4,096 each.
use Rattle.std.specs.Prelude.{◌≡◌, ◌≤◌, ◌<◌}
use Rattle.base_lists.specs.Kit.{List, ℕ, suc, length, get_or}
use Rattle.base_lists.specs.List.{part, Below}
use Rattle.graph.specs.Neighbours.{select, below, stretch}

-- the two lists have that room
pub record NetRoom (offsets targets : List ℕ) : Type 0 where
  pub in_offsets : length offsets ≡ 1026
  pub in_targets : length targets ≡ 8192

abbrev pub forward_offsets : List ℕ → List ℕ
forward_offsets offsets = part 0 513 offsets

abbrev pub backward_offsets : List ℕ → List ℕ
backward_offsets offsets = part 513 513 offsets

abbrev pub forward_targets : List ℕ → List ℕ
forward_targets targets = part 0 4096 targets

abbrev pub backward_targets : List ℕ → List ℕ
backward_targets targets = part 4096 4096 targets

-- what node v drives
unfoldable pub driven : List ℕ → List ℕ → ℕ → List ℕ
driven offsets targets v = stretch (forward_offsets offsets) (forward_targets targets) v

-- what drives node v
unfoldable pub driving : List ℕ → List ℕ → ℕ → List ℕ
driving offsets targets v = stretch (backward_offsets offsets) (backward_targets targets) v

-- Offsets and link table of n nodes that a stretch can be read from without a test: each node has its two offsets, which do not fall back
-- and stay within the table, and its stretch has nodes only. What the table has past its last stretch does not matter.
pub record Stretches (n : ℕ) (offsets table : List ℕ) : Type 0 where
  pub held : n < length offsets
  pub rising : (v : ℕ) → v < n → get_or offsets v 0 ≤ get_or offsets (suc v) 0
  pub within : (v : ℕ) → v < n → get_or offsets (suc v) 0 ≤ length table
  pub nodes : (v : ℕ) → v < n → Below n (stretch offsets table v)

-- The two lists hold neighbour tables of n nodes, whatever their links.
pub record Net (n : ℕ) (offsets targets : List ℕ) : Type 0 where
  pub room : NetRoom offsets targets
  pub forward : Stretches n (forward_offsets offsets) (forward_targets targets)
  pub backward : Stretches n (backward_offsets offsets) (backward_targets targets)

-- v is one of those nodes: its two stretches can be read without a test.
pub record NodeOf (offsets targets : List ℕ) (v : ℕ) : Type 0 where
  pub nodes : ℕ
  pub net : Net nodes offsets targets
  pub node : v < nodes

-- The two lists hold the neighbour tables of a graph of n nodes whose links go from `starts` to `ends`.
pub record NetOf (n : ℕ) (starts ends offsets targets : List ℕ) : Type 0 where
  pub room : NetRoom offsets targets
  pub forward : Stretches n (forward_offsets offsets) (forward_targets targets)
  pub backward : Stretches n (backward_offsets offsets) (backward_targets targets)
  pub begins : (v : ℕ) → v ≤ n → get_or (forward_offsets offsets) v 0 ≡ below starts v
  pub drives : (v : ℕ) → v < n → driven offsets targets v ≡ select starts ends v
  pub driven_by : (v : ℕ) → v < n → driving offsets targets v ≡ select ends starts v
