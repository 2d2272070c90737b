-- The merged pattern: the quotient of the pattern by mutual matching. (Class and merged pattern are document 01's terms.)
use Rattle.std.specs.Prelude.{◌≡◌, ◌↔◌}
use Rattle.base_lists.specs.Kit.{ℕ}
use Rattle.graph.specs.Graph.{Graph, Subgraph}
use Rattle.simulation.specs.Closed.{Relation}
use Rattle.simulation.specs.Simulation.{Largest}

-- Each of the two matches the other.
abbrev pub Mutual : Relation → Relation
Mutual S u v = S u v × S v u

-- "Two parts share a class exactly when each matches the other in the pattern's table on itself." S is that table.
pub record SharesClass (P : Graph) (S : Relation) (class : ℕ → ℕ) : Type 0 where
  pub shares : (u v : ℕ) → P.Node u → P.Node v → (class u ≡ class v) ↔ Mutual S u v

-- "The merged pattern has a part per class, of the same kind, and a link from class a to class b, b equal to a included, where some member
-- of a has a link to some member of b." (QuotientAgree says the kind.)
unfoldable pub QuotientGraph : Graph → (ℕ → ℕ) → Graph
QuotientGraph P class =
    record {
      Node = λ a. (u : ℕ) × P.Node u × (class u ≡ a);
      Link = λ a b. (u : ℕ) × (u' : ℕ) × P.Link u u' × (class u ≡ a) × (class u' ≡ b);
    }

-- ".. of the same kind": a class agrees with what its members agree with.
pub record QuotientAgree (P : Graph) (class : ℕ → ℕ) (Agree AgreeQ : Relation) : Type 0 where
  pub agree : (u v : ℕ) → P.Node u → Agree u v ↔ AgreeQ (class u) v

-- What merging needs of the agreements, of parts with parts and of parts with nodes. Equal kinds have it.
pub record AgreeLaws (P : Graph) (AgreeSelf Agree : Relation) : Type 0 where
  pub reflexive : (u : ℕ) → P.Node u → AgreeSelf u u
  pub transitive : (u x y : ℕ) → AgreeSelf u x → AgreeSelf x y → AgreeSelf u y
  pub compose : (u x v : ℕ) → AgreeSelf u x → Agree x v → Agree u v

-- The links of a graph join its nodes: it is a subgraph of itself.
abbrev pub LinksJoin : Graph → Type 0
LinksJoin G = Subgraph G G

-- The pairs of classes and nodes that a set of pairs of parts and nodes gives: a class has the pairs of its members.
unfoldable pub Image : (ℕ → ℕ) → Relation → Relation
Image class S a v = (u : ℕ) × (class u ≡ a) × S u v

-- The pairs of parts and nodes that a set of pairs of classes and nodes gives: a part has the pairs of its class.
unfoldable pub Preimage : Graph → (ℕ → ℕ) → Relation → Relation
Preimage P class R u v = P.Node u × R (class u) v

-- All that merging rests on: a pattern whose links join its parts, agreements as above, the pattern's table on itself, the classes, and the
-- agreement of the classes.
pub record Merging (P : Graph) (AgreeSelf Agree Self : Relation) (class : ℕ → ℕ) (AgreeQ : Relation) : Type 1 where
  pub joins : LinksJoin P
  pub laws : AgreeLaws P AgreeSelf Agree
  pub self : Largest P AgreeSelf P Self
  pub classes : SharesClass P Self class
  pub kinds : QuotientAgree P class Agree AgreeQ
