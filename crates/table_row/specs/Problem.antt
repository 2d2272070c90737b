-- A problem of matching: all that a row of sets is computed from. It knows no kinds of parts, no directions and no file. Requirements are
-- told apart by labels, which are of any type D.
use Rattle.std.specs.Prelude.{◌≡◌, ◌⊎◌, ◌∷◌, ◌<◌}
use Rattle.base_lists.specs.Kit.{Bool, List, [], ℕ, T}
use Rattle.base_lists.specs.List.{Occurs}

pub record Problem (D : Type 0) : Type 0 where
  -- how many parts and how many nodes there are
  pub parts : ℕ
  pub nodes : ℕ
  -- part u and node v may be a pair
  pub agree : ℕ → ℕ → Bool
  -- the labels that count
  pub ways : List D
  -- for each label: where the pattern steps to from a part, and where the board moves to from a node
  pub steps : D → ℕ → List ℕ
  pub moves : D → ℕ → List ℕ

-- d is one of the list
unfoldable pub Way : {D : Type 0} → List D → D → Type 0
Way [] d = ⊥
Way (e ∷ es) d = (d ≡ e) ⊎ Way es d

-- The same as relations, to which simulation/specs/Closed applies: the pairs in range that agree,
pub record Agreeing {D : Type 0} (p : Problem D) (u v : ℕ) : Type 0 where
  pub part : u < p.parts
  pub node : v < p.nodes
  pub agree : T (p.agree u v)

-- the steps by a label that counts,
pub record StepOf {D : Type 0} (p : Problem D) (d : D) (u u' : ℕ) : Type 0 where
  pub way : Way p.ways d
  pub step : Occurs (p.steps d u) u'

-- and the moves.
pub record MoveOf {D : Type 0} (p : Problem D) (d : D) (v v' : ℕ) : Type 0 where
  pub move : Occurs (p.moves d v) v'

unfoldable pub with_moves : {D : Type 0} → Problem D → (D → ℕ → List ℕ) → Problem D
with_moves p moves =
    record { parts = p.parts; nodes = p.nodes; agree = p.agree; ways = p.ways; steps = p.steps; moves = moves }
