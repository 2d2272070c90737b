-- Breadth-first search as a computation on lists, over any adjacency function: what the contracts of the search cite.
-- proofs/Bfs ties it to the walks of Graph.
use Rattle.std.specs.Prelude.{◌≡◌, ◌↔◌, ◌⊎◌, ◌∷◌, ◌++◌, ◌≤◌, ◌<◌, ◌+◌}
use Rattle.base_lists.specs.Kit.{cond, List, [], ℕ, suc, zero, eqb, length, get_or, take, drop, set, replicate}
use Rattle.base_lists.specs.List.{Occurs, Below}
use Rattle.graph.specs.Graph.{Walk}
use Rattle.graph.specs.Net.{driven, driving}
use Rattle.graph.specs.Search.{far}

-- how far a search has come: the distance found for each node, `far` for one that is not reached yet, and the nodes reached, in order
pub record SearchState : Type 0 where
  pub dist : List ℕ
  pub reached : List ℕ

-- look at node v from a node at distance d - 1: where v is not reached yet, it is now, at distance d
unfoldable pub visit : ℕ → SearchState → ℕ → SearchState
visit d s v =
    cond (eqb (get_or s.dist v 0) far)
    (record { dist = set s.dist v d; reached = s.reached ++ (v ∷ []) })
    s

-- look at each node of a list
unfoldable pub scan : ℕ → SearchState → List ℕ → SearchState
scan d s [] = s
scan d s (v ∷ vs) = scan d (visit d s v) vs

-- look at the neighbours of each node of a list: one level of the search
unfoldable pub level : (ℕ → List ℕ) → ℕ → SearchState → List ℕ → SearchState
level adj d s [] = s
level adj d s (v ∷ vs) = level adj d (scan d s (adj v)) vs

-- r levels after distance d. The frontier of each, the nodes at the largest distance so far, is what was reached past the first `lo` nodes.
unfoldable pub levels : (ℕ → List ℕ) → ℕ → ℕ → ℕ → SearchState → SearchState
levels adj zero d lo s = s
levels adj (suc r) d lo s = levels adj r (suc d) (length s.reached) (level adj (suc d) s (drop lo s.reached))

-- only the centre is reached
unfoldable pub start : ℕ → ℕ → SearchState
start n c = record { dist = set (replicate n far) c 0; reached = c ∷ [] }

-- breadth-first search among n nodes from c up to distance r
unfoldable pub bfs : (ℕ → List ℕ) → ℕ → ℕ → ℕ → SearchState
bfs adj n c r = levels adj r 0 0 (start n c)

-- the neighbours of v, directions ignored: what it drives, then what drives it
unfoldable pub adjacent : List ℕ → List ℕ → ℕ → List ℕ
adjacent offsets targets v = driven offsets targets v ++ driving offsets targets v

-- how many nodes are not reached
unfoldable pub missing : List ℕ → ℕ
missing [] = zero
missing (x ∷ xs) = cond (eqb x far) (suc (missing xs)) (missing xs)

-- a state of a search among n nodes: it has an entry for each, those reached and those missing are n together, and each one reached is a node
pub record SearchReady (n : ℕ) (s : SearchState) : Type 0 where
  pub size : length s.dist ≡ n
  pub counted : length s.reached + missing s.dist ≡ n
  pub inside : Below n s.reached

-- the state that a table of distances and a queue with `tail` nodes in it stand for
unfoldable pub state_of : List ℕ → List ℕ → ℕ → SearchState
state_of dist queue tail = record { dist = dist; reached = take tail queue }

-- what each step of the search rules of its tables: the queue has room for every node, and they stand for a state of a search
pub record Searching (dist queue : List ℕ) (tail : ℕ) : Type 0 where
  pub room : length dist ≤ length queue
  pub within : tail ≤ length queue
  pub ready : SearchReady (length dist) (state_of dist queue tail)

-- what each step of the search leaves: the tables stand for the state s, and for the next step all is as it was
pub record Searched (dist queue : List ℕ) (tail : ℕ) (s : SearchState) : Type 0 where
  pub state : state_of dist queue tail ≡ s
  pub kept : Searching dist queue tail

-- what a search leaves in its tables: the distances, and the k nodes reached, first in the queue
pub record Found (k : ℕ) (dist queue : List ℕ) (s : SearchState) : Type 0 where
  pub distances : dist ≡ s.dist
  pub count : k ≡ length s.reached
  pub nodes : take k queue ≡ s.reached

-- an adjacency function lists, for each of the n nodes, the nodes that a link joins it to, directions ignored
pub record Adjacency (n : ℕ) (adj : ℕ → List ℕ) (Link : ℕ → ℕ → Type 0) : Type 0 where
  pub inside : (v : ℕ) → v < n → Below n (adj v)
  pub joined : (v w : ℕ) → v < n → Occurs (adj v) w ↔ (Link v w ⊎ Link w v)

-- x is what a search from c up to distance r shall find of node v: `far`, where every walk to v is longer than r; else v's distance
abbrev pub Measured : (ℕ → ℕ → Type 0) → ℕ → ℕ → ℕ → ℕ → Type 0
Measured Link c r v x =
    ((x ≡ far) × ((k : ℕ) → Walk Link c v k → r < k))
    ⊎ (Walk Link c v x × ((k : ℕ) → Walk Link c v k → x ≤ k) × (x ≤ r))
