-- A dual simulation is a set that is closed for both directions and in which every part occurs. Assumes nothing.
use Rattle.std.specs.Prelude.{◌↔◌, ◌⊎◌}
use Rattle.base_lists.specs.Kit.{inl, inr, ℕ}
use Rattle.graph.specs.Graph.{Graph, Subgraph, Connected, Walk, stay, step}
use Rattle.simulation.specs.Closed.{Relation, ◌⊆◌, Closed, Occurring, LargestClosed, Compose}
use Rattle.simulation.specs.Simulation.{DualSimulation, Largest, Candidate, Direction, forwards, backwards, Along}
use Rattle.simulation.proofs.Closed.{compose-closed, compose-occurring, closed-weaken}

-- a wider relation is wider in each direction
pub along-wider : {R S : Relation} → R ⊆ S → (d : Direction) → Along R d ⊆ Along S d
unfolding Along
along-wider wider forwards v w l = wider v w l
along-wider wider backwards v w l = wider w v l

module _ {P : Graph} {Agree : Relation} {H : Graph} {S : Relation} where
  pub dual-closed : DualSimulation P Agree H S → Closed (Candidate P Agree H) (Along P.Link) (Along H.Link) S
  unfolding Along
  dual-closed s =
      record {
        agree = λ u v m. record { part = s.part u v m; node = s.node u v m; kinds = s.kinds u v m };
        partner = elim [ forwards ↦ s.forward | backwards ↦ s.backward ];
      }

  pub dual-occurring : DualSimulation P Agree H S → Occurring P.Node S
  dual-occurring s = record { occurs = s.occurs }

  pub closed-dual :
      Closed (Candidate P Agree H) (Along P.Link) (Along H.Link) S → Occurring P.Node S → DualSimulation P Agree H S
  unfolding Along
  closed-dual c o =
      record {
        part = λ u v m. (c.agree u v m).part;
        node = λ u v m. (c.agree u v m).node;
        kinds = λ u v m. (c.agree u v m).kinds;
        forward = c.partner forwards;
        backward = c.partner backwards;
        occurs = o.occurs;
      }

  pub dual-iff-closed :
      DualSimulation P Agree H S ↔
      (Closed (Candidate P Agree H) (Along P.Link) (Along H.Link) S × Occurring P.Node S)
  dual-iff-closed = (λ s. (dual-closed s, dual-occurring s), λ (c, o). closed-dual c o)

-- a link that joins two nodes, directions ignored, leads from the one to the other in some direction
joins-along : (Link : Relation) (v w : ℕ) → Link v w ⊎ Link w v → (d : Direction) × Along Link d v w
unfolding Along
joins-along Link v w (inl l) = (forwards, l)
joins-along Link v w (inr l) = (backwards, l)

-- Each walk in the pattern from the part of a pair leads to a part of a pair.
pub walk_pair :
    {Agree Link S : Relation} {Move : Direction → Relation} {u v x n : ℕ} →
    Closed Agree (Along Link) Move S → Walk Link u x n → S u v → (y : ℕ) × S x y
walk_pair {v} c stay s = (v, s)
walk_pair {Link} c (step {w = x} {x = x'} walk l) s =
    let (y, t) = walk_pair c walk s in
    let (d, p) = joins-along Link x x' l in
    let (y', m, t') = c.partner d x y x' t p in
    (y', t')

-- For a connected pattern occurrence follows from closedness.
pub connected-occurring :
    {P : Graph} {Agree : Relation} {H : Graph} {Move : Direction → Relation} {S : Relation} → Connected P →
    Closed (Candidate P Agree H) (Along P.Link) Move S → Occurring P.Node S
unfolding Connected
connected-occurring connected c =
    record {
      occurs = λ u v s x p.
          let (n, w) = connected u x (c.agree u v s).part p in
          walk_pair c w s;
    }

-- The largest closed set is the largest dual simulation, if every part occurs in it,
pub largest-closed-dual :
    {P : Graph} {Agree : Relation} {H : Graph} {S : Relation} → Occurring P.Node S →
    LargestClosed (Candidate P Agree H) (Along P.Link) (Along H.Link) S → Largest P Agree H S
largest-closed-dual occurring l =
    record { holds = closed-dual l.closed occurring; contains = λ R r. l.contains R (dual-closed r) }

-- and for a connected pattern the two are one.
pub largest-iff-closed :
    {P : Graph} {Agree : Relation} {H : Graph} {S : Relation} → Connected P →
    LargestClosed (Candidate P Agree H) (Along P.Link) (Along H.Link) S ↔ Largest P Agree H S
largest-iff-closed connected = (
  λ l. largest-closed-dual (connected-occurring connected l.closed) l,
  λ l.
      record {
        closed = dual-closed l.holds;
        contains = λ R c. l.contains R (closed-dual c (connected-occurring connected c));
      },
)

-- There is at most one largest dual simulation.
pub largest-unique :
    {P : Graph} {Agree : Relation} {H : Graph} {R S : Relation} → Largest P Agree H R → Largest P Agree H S → R ⊆ S
largest-unique r s = s.contains _ r.holds

-- A dual simulation in a subgraph is one in the graph.
pub dual-subgraph :
    {P : Graph} {Agree : Relation} {G H : Graph} {S : Relation} → Subgraph G H →
    DualSimulation P Agree G S → DualSimulation P Agree H S
dual-subgraph g s =
    closed-dual
    (closed-weaken (λ u v c. record { part = c.part; node = g.nodes v c.node; kinds = c.kinds })
    (λ d u u' p. (d, p, along-wider g.links d)) (dual-closed s))
    (dual-occurring s)

-- The composite of a dual simulation of a pattern in a second pattern and one of the second in a graph is one of the first in the graph.
pub dual-compose :
    {P Q H : Graph} {A B C : Relation} {T S : Relation} → ((u x v : ℕ) → A u x → B x v → C u v) →
    DualSimulation P A Q T → DualSimulation Q B H S → DualSimulation P C H (Compose T S)
dual-compose both t s =
    closed-dual
    (compose-closed
    (λ u x v a b. record { part = a.part; node = b.node; kinds = both u x v a.kinds b.kinds })
    (dual-closed t) (dual-closed s))
    (compose-occurring t.node (dual-occurring t) (dual-occurring s))
