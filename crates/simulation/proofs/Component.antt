-- Laws of a node's component. Assumes nothing.
use Rattle.base_lists.specs.Kit.{inl, inr, ℕ, suc, zero}
use Rattle.graph.specs.Graph.{Graph, Connected, Walk, stay, step}
use Rattle.simulation.specs.Simulation.{Direction, forwards, backwards, Along}
use Rattle.simulation.specs.Perfect.{Component}
use Rattle.simulation.proofs.Walks.{reverse-walk, joined-trans}

pub component-centre : (G : Graph) (w : ℕ) → (Component G w).Node w
unfolding Component
component-centre G w = (zero, stay)

-- a link from a node of the component is a link of the component, and leads to a node of it; in either direction
pub component-along :
    (G : Graph) (w : ℕ) (d : Direction) (v v' : ℕ) → (Component G w).Node v → Along G.Link d v v' →
    Along (Component G w).Link d v v' × (Component G w).Node v'
unfolding Component Along
component-along G w forwards v v' (n, walk) l = ((l, (n, walk)), (suc n, step walk (inl l)))
component-along G w backwards v v' (n, walk) l =
    let end : (Component G w).Node v' = (suc n, step walk (inr l)) in
    ((l, end), end)

-- a walk from w goes along links of the component
component-walk : (G : Graph) {w v n : ℕ} → Walk G.Link w v n → Walk (Component G w).Link w v n
unfolding Component
component-walk G stay = stay
component-walk G (step {n = n} walk (inl l)) = step (component-walk G walk) (inl (l, (n, walk)))
component-walk G (step {n = n} walk (inr l)) = step (component-walk G walk) (inr (l, (suc n, step walk (inr l))))

pub component-connected : (G : Graph) (w : ℕ) → Connected (Component G w)
unfolding Connected Component
component-connected G w v v' p q =
    joined-trans (reverse-walk (component-walk G p.1)) (component-walk G q.1)
