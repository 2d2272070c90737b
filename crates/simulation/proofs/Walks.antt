-- Laws of walks, directions ignored: they can be mapped, turned round and joined. Assumes nothing.
use Rattle.std.specs.Prelude.{◌⊎◌}
use Rattle.base_lists.specs.Kit.{⊎_swap, ⊎_map, ℕ, suc}
use Rattle.graph.specs.Graph.{Walk, stay, step}
use Rattle.simulation.specs.Closed.{Relation, ◌⊆◌}
use Rattle.simulation.specs.Perfect.{Joined}

-- a map that takes links to links takes walks to walks of the same length
pub map-walk :
    {R S : Relation} (f : ℕ → ℕ) → ((v w : ℕ) → R v w → S (f v) (f w)) →
    {v w n : ℕ} → Walk R v w n → Walk S (f v) (f w) n
map-walk f maps stay = stay
map-walk f maps (step {w = w} {x = x} p l) = step (map-walk f maps p) (⊎_map (maps w x) (maps x w) l)

pub wider-walk : {R S : Relation} → R ⊆ S → {v w n : ℕ} → Walk R v w n → Walk S v w n
wider-walk wider = map-walk (λ v. v) wider

-- a walk with a link before it
prepend : {R : Relation} {v w x n : ℕ} → R v w ⊎ R w v → Walk R w x n → Walk R v x (suc n)
prepend l stay = step stay l
prepend l (step p m) = step (prepend l p) m

-- the same walk from its end to its start
pub reverse-walk : {R : Relation} {v w n : ℕ} → Walk R v w n → Walk R w v n
reverse-walk stay = stay
reverse-walk (step p l) = prepend (⊎_swap l) (reverse-walk p)

-- one walk after another
pub joined-trans : {R : Relation} {v w x n m : ℕ} → Walk R v w n → Walk R w x m → Joined R v x
joined-trans {n} p stay = (n, p)
joined-trans p (step q l) =
    let (k, r) = joined-trans p q in
    (suc k, step r l)
