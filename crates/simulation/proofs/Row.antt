-- A row of sets that stops has the largest closed set at its end. Assumes nothing.
use Rattle.base_lists.specs.Kit.{ℕ, suc, zero}
use Rattle.simulation.specs.Closed.{Relation, ◌⊆◌, Closed, LargestClosed, Refine, Row}

-- a closed set inside another is inside what that is refined to
refine-contains :
    {D : Type 0} {Agree : Relation} {Step Move : D → Relation} {R S : Relation} → Closed Agree Step Move S → S ⊆ R →
    S ⊆ Refine Step Move R
unfolding Refine
refine-contains c inside u v s = (
  inside u v s,
  λ d u' p.
      let (v', m, s') = c.partner d u v u' s p in
      (v', m, inside u' v' s'),
)

-- Every set of the row contains each closed set that the first one contains.
pub row-contains :
    {D : Type 0} {Agree : Relation} {Step Move : D → Relation} {First S : Relation} → Closed Agree Step Move S → S ⊆ First →
    (n : ℕ) → S ⊆ Row Step Move First n
unfolding Row
row-contains c inside zero = inside
row-contains c inside (suc n) = refine-contains c (row-contains c inside n)

-- The sets of the row fall.
pub row-falls :
    {D : Type 0} (Step Move : D → Relation) (First : Relation) (n : ℕ) → Row Step Move First n ⊆ First
unfolding Row Refine
row-falls Step Move First zero u v r = r
row-falls Step Move First (suc n) u v r = row-falls Step Move First n u v r.0

-- A row may begin with any set of agreeing pairs that contains every closed set. Where a set of it is as large as the next it is the
-- largest closed set.
pub row-largest :
    {D : Type 0} {Agree : Relation} {Step Move : D → Relation} {First : Relation} → First ⊆ Agree →
    ((S : Relation) → Closed Agree Step Move S → S ⊆ First) → (n : ℕ) →
    Row Step Move First n ⊆ Row Step Move First (suc n) → LargestClosed Agree Step Move (Row Step Move First n)
unfolding Row Refine
row-largest {Step} {Move} {First} agrees starts n stops =
    record {
      closed =
          record {
            agree = λ u v r. agrees u v (row-falls Step Move First n u v r);
            partner = λ d u v u' r p. (stops u v r).1 d u' p;
          };
      contains = λ S c. row-contains c (starts S c) n;
    }

-- So it is where the row begins with all agreeing pairs.
pub row-largest-agree :
    {D : Type 0} {Agree : Relation} {Step Move : D → Relation} (n : ℕ) →
    Row Step Move Agree n ⊆ Row Step Move Agree (suc n) → LargestClosed Agree Step Move (Row Step Move Agree n)
row-largest-agree n stops = row-largest (λ u v a. a) (λ S c. c.agree) n stops
