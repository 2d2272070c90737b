-- Dual simulation, as document 01 reads it, and graph simulation. The pattern P and the graph H are graphs; Agree u v says that part u and node v have equal kinds.
use Rattle.base_lists.specs.Kit.{ℕ}
use Rattle.graph.specs.Graph.{Graph}
use Rattle.simulation.specs.Closed.{Relation, ◌⊆◌}

-- "A dual simulation of a pattern in a graph H (a board or a subgraph of one) is a set of pairs (part u, node v) in which every pair has
-- equal kinds; for each pattern link from u to u', H has a link from v to some v' with (u', v') in the set; for each pattern link from u'
-- to u, H has a link from some v' to v with (u', v') in the set; and each part occurs in a pair, unless the set is empty."
pub record DualSimulation (P : Graph) (Agree : Relation) (H : Graph) (S : Relation) : Type 0 where
  pub part : (u v : ℕ) → S u v → P.Node u
  pub node : (u v : ℕ) → S u v → H.Node v
  pub kinds : S ⊆ Agree
  pub forward : (u v u' : ℕ) → S u v → P.Link u u' → (v' : ℕ) × H.Link v v' × S u' v'
  pub backward : (u v u' : ℕ) → S u v → P.Link u' u → (v' : ℕ) × H.Link v' v × S u' v'
  pub occurs : (u v : ℕ) → S u v → (x : ℕ) → P.Node x → (y : ℕ) × S x y

-- The largest dual simulation: it is one, and every other lies inside it.
pub record Largest (P : Graph) (Agree : Relation) (H : Graph) (S : Relation) : Type 1 where
  pub holds : DualSimulation P Agree H S
  pub contains : (R : Relation) → DualSimulation P Agree H R → R ⊆ S

-- Graph simulation, of source document 000, section 2: a relation "such that: (1) for each (u, v) ∈ S, u and v have the same label ..; and (2) for
-- each node u in V_q, there exists v ∈ V such that (a) (u, v) ∈ S, and (b) for each edge (u, u') ∈ E_q, there exists an edge (v, v') in E such
-- that (u', v') ∈ S." Read as document 01 reads dual simulation: (b) binds every pair, and the empty set is one. It is a dual simulation
-- without what is asked of the links that lead to a part.
pub record GraphSimulation (P : Graph) (Agree : Relation) (H : Graph) (S : Relation) : Type 0 where
  pub part : (u v : ℕ) → S u v → P.Node u
  pub node : (u v : ℕ) → S u v → H.Node v
  pub kinds : S ⊆ Agree
  pub forward : (u v u' : ℕ) → S u v → P.Link u u' → (v' : ℕ) × H.Link v v' × S u' v'
  pub occurs : (u v : ℕ) → S u v → (x : ℕ) → P.Node x → (y : ℕ) × S x y

-- The largest graph simulation: it is one, and every other lies inside it.
pub record LargestGraphSimulation (P : Graph) (Agree : Relation) (H : Graph) (S : Relation) : Type 1 where
  pub holds : GraphSimulation P Agree H S
  pub contains : (R : Relation) → GraphSimulation P Agree H R → R ⊆ S

-- The same as a closed set. A pair of a part and a node is a candidate when they have equal kinds: "R0 is the set of pairs with equal kinds."
pub record Candidate (P : Graph) (Agree : Relation) (H : Graph) (u v : ℕ) : Type 0 where
  pub part : P.Node u
  pub node : H.Node v
  pub kinds : Agree u v

-- The labels of a dual simulation are the two directions in which a link can be followed.
pub data Direction : Type 0 where
  forwards : Direction
  backwards : Direction

unfoldable pub Along : Relation → Direction → Relation
Along Link forwards v w = Link v w
Along Link backwards v w = Link w v
