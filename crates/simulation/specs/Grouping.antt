-- Groupings of a pattern's parts. A grouping is made into a pattern as merging does it: specs/Quotient's QuotientGraph and QuotientAgree, of
-- which the merged pattern is the instance for the classes of mutual matching.
use Rattle.std.specs.Prelude.{◌≡◌, ◌↔◌, ◌<◌}
use Rattle.base_lists.specs.Kit.{ℕ}
use Rattle.graph.specs.Graph.{Graph}
use Rattle.simulation.specs.Closed.{Relation}

-- "every other grouping of the parts, members of a group having the same kind and package number": each part is in one group, no group is
-- empty, and the k groups are numbered from 0 in any order. Alike is what members of one group have the same.
pub record Grouping (P : Graph) (Alike : Relation) (group : ℕ → ℕ) (k : ℕ) : Type 0 where
  pub below : (u : ℕ) → P.Node u → group u < k
  pub onto : (a : ℕ) → a < k → (u : ℕ) × P.Node u × (group u ≡ a)
  pub alike : (u v : ℕ) → P.Node u → P.Node v → group u ≡ group v → Alike u v

-- "for each group, each single member of it .., a node matches the group exactly when it matches that member in the first pattern's table": on
-- a board H, where S is that table, and R the table of the pattern that the grouping makes.
pub record AsEachMember (P : Graph) (group : ℕ → ℕ) (H : Graph) (S R : Relation) : Type 0 where
  pub exactly : (a u v : ℕ) → P.Node u → group u ≡ a → H.Node v → R a v ↔ S u v

-- What is asked of being alike: alike parts agree with the same nodes, and parts that agree each with the other are alike.
pub record AlikeLaws (Alike AgreeSelf Agree : Relation) : Type 0 where
  pub same : (u x v : ℕ) → Alike u x → Agree u v → Agree x v
  pub each : (u v : ℕ) → AgreeSelf u v → AgreeSelf v u → Alike u v
