-- Barring, over arbitrary sets of links: those links alone already say that the centre has no place. Document 02, Ask 14.
use Rattle.base_lists.specs.Kit.{ℕ}
use Rattle.graph.specs.Graph.{Graph, Ball, Radius}
use Rattle.simulation.specs.Closed.{Relation, LargestClosed}
use Rattle.simulation.specs.Simulation.{Candidate, Along}

-- "the largest set of pairs that meets kinds, packages and those links alone, all parts kept and none required to occur, has no pair with the
-- centre": in a graph H. Agree says that a part and a node have agreeing kinds; L is any set of links between parts.
pub record BarsIn (P : Graph) (Agree : Relation) (H : Graph) (w : ℕ) (L : Relation) : Type 1 where
  pub S : Relation
  pub largest : LargestClosed (Candidate P Agree H) (Along L) (Along H.Link) S
  pub none : (u : ℕ) → S u w → ⊥

-- "Keep the ball at the full pattern's radius. Call a set of pattern links barring when .."
pub record Bars (P : Graph) (Agree : Relation) (G : Graph) (w : ℕ) (L : Relation) : Type 1 where
  pub radius : ℕ
  pub full : Radius P radius
  pub bars : BarsIn P Agree (Ball G w radius) w L
