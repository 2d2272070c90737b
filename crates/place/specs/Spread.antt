-- The search for the centre's component: links are followed where they match, which is tested by whole sets. It stops where nothing is
-- new; proofs/Spread ties what it leaves to walks.
use Rattle.std.specs.Prelude.{◌≡◌, ◌++◌, ◌<◌}
use Rattle.base_lists.specs.Kit.{Bool, List, ℕ, T, length, get_or}
use Rattle.base_lists.specs.List.{Occurs}
use Rattle.base_bits.specs.Bits.{union_over}
use Rattle.graph.specs.Net.{driven, driving}
use Rattle.graph.specs.Search.{far}
use Rattle.table.specs.Fill.{NodeList}
use Rattle.graph_follow.specs.Follow.{meeting}
use Rattle.table.specs.Prepared.{succ_of, pred_of, Tables}

-- The nodes that a matching link joins to node v, directions ignored. What the parts of v's set drive is one union, what drives them another.
unfoldable pub matched : Tables → List ℕ → ℕ → List ℕ
matched t sets v =
    meeting (union_over (succ_of t.masks) (get_or sets v 0)) sets (driven t.offsets t.targets v)
    ++ meeting (union_over (pred_of t.masks) (get_or sets v 0)) sets (driving t.offsets t.targets v)

-- the entry of node v is not `far`: the search has reached it
abbrev pub Reached : List ℕ → ℕ → Type 0
Reached dist v = get_or dist v 0 ≡ far → ⊥

-- a set that has, with a node, what the adjacency function lists for it
abbrev pub ClosedSet : ℕ → (ℕ → List ℕ) → (ℕ → Bool) → Type 0
ClosedSet n adj p = (v w : ℕ) → v < n → T (p v) → Occurs (adj v) w → T (p w)

-- What the search leaves among n nodes: those reached are the least closed set that has the centre.
pub record Spread (n c : ℕ) (adj : ℕ → List ℕ) (dist : List ℕ) : Type 0 where
  pub size : length dist ≡ n
  pub centre : Reached dist c
  pub closed : (v w : ℕ) → v < n → Reached dist v → Occurs (adj v) w → Reached dist w
  pub least : (p : ℕ → Bool) → T (p c) → ClosedSet n adj p → (v : ℕ) → v < n → Reached dist v → T (p v)

-- the list has the nodes that the search reached, each once
pub record Lists (nodes dist : List ℕ) : Type 0 where
  pub list : NodeList (length dist) nodes
  pub near : (v : ℕ) → Occurs nodes v → Reached dist v
  pub complete : (v : ℕ) → v < length dist → Reached dist v → Occurs nodes v
