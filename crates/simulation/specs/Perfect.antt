-- Match graph, perfect subgraph and place; the component of a node; when two graphs are the same.
use Rattle.std.specs.Prelude.{◌↔◌}
use Rattle.base_lists.specs.Kit.{ℕ}
use Rattle.graph.specs.Graph.{Graph, Subgraph, Contains, Connected, Walk, Ball}
use Rattle.simulation.specs.Closed.{Relation}
use Rattle.simulation.specs.Simulation.{Largest}

-- "The match graph of a set S in H has the nodes that occur in S and those links (v, v') of H for which the pattern has a link (u, u')
-- with (u, v) and (u', v') in S."
unfoldable pub MatchGraph : Graph → Graph → Relation → Graph
MatchGraph P H S =
    record {
      Node = λ v. (u : ℕ) × S u v;
      Link = λ v v'. H.Link v v' × ((u : ℕ) × (u' : ℕ) × P.Link u u' × S u v × S u' v');
    }

-- "A perfect subgraph around w at radius r is a connected subgraph of the ball around w at radius r, with w among its nodes, in which the
-- pattern has a non-empty dual simulation, and which is the match graph, in itself, of its largest one." B stands for the ball, and S for
-- the largest dual simulation in G.
pub record PerfectIn (P : Graph) (Agree : Relation) (B : Graph) (w : ℕ) (G : Graph) : Type 1 where
  pub subgraph : Subgraph G B
  pub connected : Connected G
  pub centre : G.Node w
  pub S : Relation
  pub largest : Largest P Agree G S
  pub pair : (u : ℕ) × (v : ℕ) × S u v
  pub holds_matches : Contains G (MatchGraph P G S)
  pub only_matches : Contains (MatchGraph P G S) G

abbrev pub Perfect : Graph → Relation → Graph → ℕ → ℕ → Graph → Type 1
Perfect P Agree H w r G = PerfectIn P Agree (Ball H w r) w G

-- "The place is the perfect subgraph around w at radius r that contains every other." (The term is document 01's.)
pub record PlaceIn (P : Graph) (Agree : Relation) (B : Graph) (w : ℕ) (G : Graph) : Type 1 where
  pub perfect : PerfectIn P Agree B w G
  pub contains : (other : Graph) → PerfectIn P Agree B w other → Contains G other

abbrev pub Place : Graph → Relation → Graph → ℕ → ℕ → Graph → Type 1
Place P Agree H w r G = PlaceIn P Agree (Ball H w r) w G

-- Two graphs with the same nodes and the same links.
pub record SameGraph (G H : Graph) : Type 0 where
  pub nodes : (v : ℕ) → G.Node v ↔ H.Node v
  pub links : (v w : ℕ) → G.Link v w ↔ H.Link v w

-- Two agreements that say the same of each part and each node.
pub record SameAgree (P H : Graph) (Agree Agree' : Relation) : Type 0 where
  pub agree : (u v : ℕ) → P.Node u → H.Node v → Agree u v ↔ Agree' u v

-- Two nodes are joined when some walk leads from one to the other, directions ignored.
abbrev pub Joined : Relation → Relation
Joined Link v w = (n : ℕ) × Walk Link v w n

-- The component of w, a node of G: the nodes that G's links, directions ignored, join to w, and G's links between them. (A link from one
-- of them leads to one of them.)
unfoldable pub Component : Graph → ℕ → Graph
Component G w = record { Node = Joined G.Link w; Link = λ v v'. G.Link v v' × Joined G.Link w v }

-- The component of w in the match graph.
abbrev pub MatchComponent : Graph → Graph → Relation → ℕ → Graph
MatchComponent P H S w = Component (MatchGraph P H S) w
