-- What a problem and its tables say: how a problem is read as an agreement, steps and moves of any kind; when one problem asks no more
-- than another; and with which tables striking may begin.
use Rattle.std.specs.Prelude.{◌≡◌, ◌↔◌, ◌<◌, ◌^◌}
use Rattle.base_lists.specs.Kit.{List, ℕ, T, length, get_or}
use Rattle.simulation.specs.Closed.{Relation, ◌⊆◌, Closed, Occurring}
use Rattle.table_row.specs.Problem.{Problem, Way, Agreeing, StepOf, MoveOf}
use Rattle.table_row.specs.Row.{in_table, start_of, last_of}

-- ---- tables

-- the set of pairs that a table holds
abbrev pub InTable : List ℕ → Relation
InTable t u v = T (in_table t u v)

-- a table of n sets of the parts below k
pub record SetsFit (n k : ℕ) (t : List ℕ) : Type 0 where
  pub size : length t ≡ n
  pub small : (v : ℕ) → get_or t v 0 < 2 ^ k

-- a table of a problem: a number per node, of as many digits as there are parts
abbrev pub TableOf : {D : Type 0} → Problem D → List ℕ → Type 0
TableOf p t = SetsFit p.nodes p.parts t

-- ---- how a problem is read

-- The problem has this agreement, these steps and these moves. Moves are asked for only where they may answer a step: between pairs that
-- agree.
pub record Reading {D : Type 0} (p : Problem D) (Agree : Relation) (Step Move : D → Relation) : Type 0 where
  pub agree : (u v : ℕ) → Agreeing p u v ↔ Agree u v
  pub step : (d : D) (u u' : ℕ) → StepOf p d u u' ↔ Step d u u'
  pub move : (d : D) (u v u' v' : ℕ) → Agree u v → Agree u' v' → Step d u u' → MoveOf p d v v' ↔ Move d v v'

-- those steps whose label is among the ways
abbrev pub Chosen : {D : Type 0} → List D → (D → Relation) → D → Relation
Chosen ways Step d u u' = Way ways d × Step d u u'

-- The largest set that is closed and in which every part occurs, unless it is empty.
pub record LargestOccurring {D : Type 0} (Part : ℕ → Type 0) (Agree : Relation) (Step Move : D → Relation) (S : Relation) : Type 1 where
  pub closed : Closed Agree Step Move S
  pub occurring : Occurring Part S
  pub contains : (R : Relation) → Closed Agree Step Move R → Occurring Part R → R ⊆ S

-- ---- problems side by side

-- q asks no more than p: what agrees in p agrees in q, and each step of q is one of p, perhaps by another label, whose moves between pairs
-- that agree are moves of q.
pub record Wider {D E : Type 0} (p : Problem D) (q : Problem E) : Type 0 where
  pub agree : Agreeing p ⊆ Agreeing q
  pub step :
      (e : E) (u u' : ℕ) → StepOf q e u u' →
      (d : D) × StepOf p d u u' × ((v v' : ℕ) → Agreeing p u v → Agreeing p u' v' → MoveOf p d v v' → MoveOf q e v v')

-- Each asks no more than the other, of as many nodes and parts.
pub record Equivalent {D E : Type 0} (p : Problem D) (q : Problem E) : Type 0 where
  pub nodes : p.nodes ≡ q.nodes
  pub parts : p.parts ≡ q.parts
  pub wider : Wider p q
  pub narrower : Wider q p

-- ---- a table to begin with

-- It has the pairs of the row's last set, and only pairs of its first set: it lies between the two.
pub record Begins {D : Type 0} (p : Problem D) (t : List ℕ) : Type 0 where
  pub long : length t ≡ p.nodes
  pub within : InTable t ⊆ InTable (start_of p)
  pub contains : InTable (last_of p) ⊆ InTable t
