-- Bounded simulation: dual simulation, with a bound on each link of the pattern. Sets are arbitrary, so that "largest" is over every one.
use Rattle.base_lists.specs.Kit.{ℕ}
use Rattle.graph.specs.Graph.{Graph}
use Rattle.simulation.specs.Closed.{Relation, ◌⊆◌}
use Rattle.bounded.specs.Path.{PathWithin}

-- A pattern whose links have bounds: its parts, and from which part to which it has a link of bound h.
pub record BoundedGraph : Type 1 where
  pub Node : ℕ → Type 0
  pub Link : ℕ → ℕ → ℕ → Type 0

-- "A pattern link with bound h is then met by a directed path of 1 to h board links, end to end": for each pattern link of bound h from u
-- to u', there is such a path from v to some v' with (u', v') in the set; for each from u' to u, one from some v' to v. What a path passes on
-- its way need not be in a pair. Of kinds, and of each part occurring, as in a dual simulation.
pub record BoundedSimulation (P : BoundedGraph) (Agree : Relation) (H : Graph) (S : Relation) : Type 0 where
  pub part : (u v : ℕ) → S u v → P.Node u
  pub node : (u v : ℕ) → S u v → H.Node v
  pub kinds : S ⊆ Agree
  pub forward : (u v u' h : ℕ) → S u v → P.Link u u' h → (v' : ℕ) × PathWithin H.Link h v v' × S u' v'
  pub backward : (u v u' h : ℕ) → S u v → P.Link u' u h → (v' : ℕ) × PathWithin H.Link h v' v × S u' v'
  pub occurs : (u v : ℕ) → S u v → (x : ℕ) → P.Node x → (y : ℕ) × S x y

-- The largest one: it is one, and every other lies inside it.
pub record LargestBounded (P : BoundedGraph) (Agree : Relation) (H : Graph) (S : Relation) : Type 1 where
  pub holds : BoundedSimulation P Agree H S
  pub contains : (R : Relation) → BoundedSimulation P Agree H R → R ⊆ S
