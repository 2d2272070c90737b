-- The one notion under every kind of matching: a set of pairs that is closed under labelled requirements. It knows no kinds of parts, no
-- directions and no file.
use Rattle.base_lists.specs.Kit.{ℕ, suc, zero}

-- A set of pairs of numbers: of parts and nodes, or of nodes.
abbrev pub Relation : Type 1
Relation = ℕ → ℕ → Type 0

-- Every pair of R is in S.
infix 4 ◌⊆◌
abbrev pub ◌⊆◌ : Relation → Relation → Type 0
R ⊆ S = (u v : ℕ) → R u v → S u v

-- A set S of pairs (part u, node v) is closed when each pair agrees, and each step of the pattern from u to u' that bears the label d is
-- answered by a move with that label from v to some v' with (u', v') in S.
pub record Closed {D : Type 0} (Agree : Relation) (Step Move : D → Relation) (S : Relation) : Type 0 where
  pub agree : S ⊆ Agree
  pub partner : (d : D) (u v u' : ℕ) → S u v → Step d u u' → (v' : ℕ) × Move d v v' × S u' v'

-- Every part of the pattern occurs in a pair, unless the set is empty.
pub record Occurring (Part : ℕ → Type 0) (S : Relation) : Type 0 where
  pub occurs : (u v : ℕ) → S u v → (x : ℕ) → Part x → (y : ℕ) × S x y

-- The largest closed set: it is one, and every other lies inside it.
pub record LargestClosed {D : Type 0} (Agree : Relation) (Step Move : D → Relation) (S : Relation) : Type 1 where
  pub closed : Closed Agree Step Move S
  pub contains : (R : Relation) → Closed Agree Step Move R → R ⊆ S

-- The pairs of S whose node is one of N.
unfoldable pub Restrict : Relation → (ℕ → Type 0) → Relation
Restrict S N u v = S u v × N v

-- From u to v by way of some x.
unfoldable pub Compose : Relation → Relation → Relation
Compose T S u v = (x : ℕ) × T u x × S x v

-- "Each further set keeps those pairs of the last whose links have partners in the last."
unfoldable pub Refine : {D : Type 0} → (D → Relation) → (D → Relation) → Relation → Relation
Refine {D} Step Move R u v = R u v × ((d : D) (u' : ℕ) → Step d u u' → (v' : ℕ) × Move d v v' × R u' v')

-- The row of sets that begins with a given one.
unfoldable pub Row : {D : Type 0} → (D → Relation) → (D → Relation) → Relation → ℕ → Relation
Row Step Move First zero = First
Row Step Move First (suc n) = Refine Step Move (Row Step Move First n)
