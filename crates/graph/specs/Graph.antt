-- What is meant by graph, subgraph, distance, ball, radius and connected. Sets are arbitrary predicates on numbers, so "every subgraph"
-- is every one, and not only those that a program can build. The quoted sentences are document 01's.
use Rattle.std.specs.Prelude.{◌≡◌, ◌↔◌, ◌⊎◌, ◌≢◌, ◌≤◌}
use Rattle.base_lists.specs.Kit.{ℕ, suc, zero}

-- A directed graph: which numbers are its nodes, and from which node to which it has a link.
pub record Graph : Type 1 where
  pub Node : ℕ → Type 0
  pub Link : ℕ → ℕ → Type 0

-- G is a subgraph of H: "A subgraph takes any of a graph's nodes and any of the links between those it takes."
pub record Subgraph (G H : Graph) : Type 0 where
  pub nodes : (v : ℕ) → G.Node v → H.Node v
  pub links : (v w : ℕ) → G.Link v w → H.Link v w
  pub starts : (v w : ℕ) → G.Link v w → G.Node v
  pub ends : (v w : ℕ) → G.Link v w → G.Node w

-- "One contains another when it has all the other's nodes and all its links."
pub record Contains (G other : Graph) : Type 0 where
  pub nodes : (v : ℕ) → other.Node v → G.Node v
  pub links : (v w : ℕ) → other.Link v w → G.Link v w

-- A walk of n links from v to w, "directions ignored".
pub data Walk (Link : ℕ → ℕ → Type 0) : ℕ → ℕ → ℕ → Type 0 where
  stay : {v : ℕ} → Walk Link v v zero
  step : {v w x n : ℕ} → Walk Link v w n → Link w x ⊎ Link x w → Walk Link v x (suc n)

-- "Distance counts links along a shortest path, directions ignored": a walk of d links, and none is shorter.
pub record Distance (G : Graph) (v w d : ℕ) : Type 0 where
  pub walk : Walk G.Link v w d
  pub shortest : (k : ℕ) → Walk G.Link v w k → d ≤ k

-- "The ball around centre w at radius r holds the nodes at distance at most r from w, and all board links between them";
-- "where no path joins a node to the centre, no ball holds that node".
unfoldable pub InBall : Graph → ℕ → ℕ → ℕ → Type 0
InBall G w r v = G.Node v × ((d : ℕ) × Distance G w v d × d ≤ r)

unfoldable pub Ball : Graph → ℕ → ℕ → Graph
Ball G w r = record { Node = InBall G w r; Link = λ v v'. G.Link v v' × InBall G w r v × InBall G w r v' }

-- x is the entry of node v for the ball around w at radius r: "each node's distance from the centre, and 65,535 for a node outside the ball".
-- (Document 02, Ask 2. No distance on a board is 65,535: proofs/Distance `distance-below`.)
pub record DistanceEntry (G : Graph) (w r v x : ℕ) : Type 0 where
  pub inside : (d : ℕ) → d ≢ 65535 → (x ≡ d) ↔ (Distance G w v d × (d ≤ r))
  pub outside : (x ≡ 65535) ↔ ((Ball G w r).Node v → ⊥)

-- "It is connected when its own links, directions ignored, join all its nodes; a single node is connected."
unfoldable pub Connected : Graph → Type 0
Connected G = (v w : ℕ) → G.Node v → G.Node w → (n : ℕ) × Walk G.Link v w n

-- "A pattern's radius is the largest distance between two of its parts; it is 0 for one part." (Radius is document 01's term: the field
-- calls it the diameter.)
pub record Radius (G : Graph) (r : ℕ) : Type 0 where
  pub reached : (v w : ℕ) → G.Node v → G.Node w → (d : ℕ) × Distance G v w d × d ≤ r
  pub attained : (v : ℕ) × (w : ℕ) × G.Node v × G.Node w × Distance G v w r
