-- Graphs with the same nodes and links, and agreements that say the same, may take each other's place in every statement on matching.
-- Assumes nothing.
use Rattle.base_lists.specs.Kit.{iff_rfl, iff_symm, ℕ}
use Rattle.graph.specs.Graph.{Graph, Subgraph, Contains, Connected, Distance, Radius}
use Rattle.simulation.specs.Closed.{Relation, ◌⊆◌}
use Rattle.simulation.specs.Simulation.{DualSimulation, Largest}
use Rattle.simulation.specs.Perfect.{MatchGraph, PerfectIn, PlaceIn, SameGraph, SameAgree}
use Rattle.simulation.proofs.Closed.{closed-weaken, closed-same-set, occurring-same-set}
use Rattle.simulation.proofs.Simulation.{along-wider, dual-closed, dual-occurring, closed-dual}
use Rattle.simulation.proofs.Walks.{wider-walk}

-- ── Graphs ──

pub same_refl : (G : Graph) → SameGraph G G
same_refl G = record { nodes = λ v. iff_rfl; links = λ v w. iff_rfl }

pub same-symm : {G H : Graph} → SameGraph G H → SameGraph H G
same-symm g = record { nodes = λ v. iff_symm (g.nodes v); links = λ v w. iff_symm (g.links v w) }

pub same-contains : {G H : Graph} → SameGraph G H → Contains H G
same-contains g = record { nodes = λ v. (g.nodes v).0; links = λ v w. (g.links v w).0 }

-- two graphs that contain each other are the same
pub contains-same : {G H : Graph} → Contains G H → Contains H G → SameGraph G H
contains-same g h = record { nodes = λ v. (h.nodes v, g.nodes v); links = λ v w. (h.links v w, g.links v w) }

pub contains-trans : {F G H : Graph} → Contains F G → Contains G H → Contains F H
contains-trans f g =
    record { nodes = λ v n. f.nodes v (g.nodes v n); links = λ v w l. f.links v w (g.links v w l) }

subgraph-same : {G G' H H' : Graph} → SameGraph G G' → SameGraph H H' → Subgraph G H → Subgraph G' H'
subgraph-same g h s =
    record {
      nodes = λ v n. (h.nodes v).0 (s.nodes v ((g.nodes v).1 n));
      links = λ v w l. (h.links v w).0 (s.links v w ((g.links v w).1 l));
      starts = λ v w l. (g.nodes v).0 (s.starts v w ((g.links v w).1 l));
      ends = λ v w l. (g.nodes w).0 (s.ends v w ((g.links v w).1 l));
    }

pub connected-same : {G G' : Graph} → SameGraph G G' → Connected G → Connected G'
unfolding Connected
connected-same g connected v w n m =
    let (k, walk) = connected v w ((g.nodes v).1 n) ((g.nodes w).1 m) in
    (k, wider-walk (λ x y. (g.links x y).0) walk)

distance-same : {G G' : Graph} {v w d : ℕ} → SameGraph G G' → Distance G v w d → Distance G' v w d
distance-same g p =
    record {
      walk = wider-walk (λ x y. (g.links x y).0) p.walk;
      shortest = λ k q. p.shortest k (wider-walk (λ x y. (g.links x y).1) q);
    }

pub radius-same : {G G' : Graph} {r : ℕ} → SameGraph G G' → Radius G r → Radius G' r
radius-same g p =
    record {
      reached = λ v w n m.
          let (d, near, le) = p.reached v w ((g.nodes v).1 n) ((g.nodes w).1 m) in
          (d, distance-same g near, le);
      attained =
          let (v, w, n, m, far) = p.attained in
          (v, w, (g.nodes v).0 n, (g.nodes w).0 m, distance-same g far);
    }

-- ── Dual simulations ──

pub agree-symm :
    {P P' H H' : Graph} {Agree Agree' : Relation} → SameGraph P P' → SameGraph H H' → SameAgree P H Agree Agree' →
    SameAgree P' H' Agree' Agree
agree-symm p h a =
    record { agree = λ u v m n. iff_symm (a.agree u v ((p.nodes u).1 m) ((h.nodes v).1 n)) }

pub dual-same :
    {P P' H H' : Graph} {Agree Agree' S : Relation} → SameGraph P P' → SameGraph H H' → SameAgree P H Agree Agree' →
    DualSimulation P Agree H S → DualSimulation P' Agree' H' S
dual-same p h a s =
    closed-dual
    (closed-weaken
    (λ u v c.
    record {
      part = (p.nodes u).0 c.part;
      node = (h.nodes v).0 c.node;
      kinds = (a.agree u v c.part c.node).0 c.kinds;
    })
    (λ d u u' l. (d, along-wider (λ x y. (p.links x y).1) d u u' l, along-wider (λ x y. (h.links x y).0) d))
    (dual-closed s))
    (record { occurs = λ u v m x n. s.occurs u v m x ((p.nodes x).1 n) })

pub largest-same :
    {P P' H H' : Graph} {Agree Agree' S : Relation} → SameGraph P P' → SameGraph H H' → SameAgree P H Agree Agree' →
    Largest P Agree H S → Largest P' Agree' H' S
largest-same p h a l =
    record {
      holds = dual-same p h a l.holds;
      contains = λ R r. l.contains R (dual-same (same-symm p) (same-symm h) (agree-symm p h a) r);
    }

-- the same set, said in another way
pub largest-same-set :
    {P H : Graph} {Agree R S : Relation} → R ⊆ S → S ⊆ R → Largest P Agree H R → Largest P Agree H S
largest-same-set there back l =
    record {
      holds =
          closed-dual (closed-same-set there back (dual-closed l.holds))
          (occurring-same-set there back (dual-occurring l.holds));
      contains = λ T t u v m. there u v (l.contains T t u v m);
    }

-- ── Perfect subgraphs and places ──

pub match-same :
    {P P' H H' : Graph} (S : Relation) → SameGraph P P' → SameGraph H H' → SameGraph (MatchGraph P H S) (MatchGraph P' H' S)
unfolding MatchGraph
match-same S p h =
    record {
      nodes = λ v. iff_rfl;
      links = λ v w. (
        λ (l, (u, u', q, s, s')). ((h.links v w).0 l, (u, u', (p.links u u').0 q, s, s')),
        λ (l, (u, u', q, s, s')). ((h.links v w).1 l, (u, u', (p.links u u').1 q, s, s')),
      );
    }

-- a perfect subgraph is one wherever it is a subgraph: of what lies around it nothing else is asked
pub perfect-within : {P B B' G : Graph} {Agree : Relation} {w : ℕ} → Subgraph G B' → PerfectIn P Agree B w G → PerfectIn P Agree B' w G
perfect-within s g =
    record {
      subgraph = s;
      connected = g.connected;
      centre = g.centre;
      S = g.S;
      largest = g.largest;
      pair = g.pair;
      holds_matches = g.holds_matches;
      only_matches = g.only_matches;
    }

pub perfect-same :
    {P P' B B' G G' : Graph} {Agree Agree' : Relation} {w : ℕ} →
    SameGraph P P' → SameAgree P B Agree Agree' → SameGraph B B' → SameGraph G G' →
    PerfectIn P Agree B w G → PerfectIn P' Agree' B' w G'
perfect-same {w} p a b g f =
    record {
      subgraph = subgraph-same g b f.subgraph;
      connected = connected-same g f.connected;
      centre = (g.nodes w).0 f.centre;
      S = f.S;
      largest = largest-same p g (record { agree = λ u v m n. a.agree u v m (f.subgraph.nodes v n) }) f.largest;
      pair = f.pair;
      holds_matches =
          contains-trans (same-contains g) (contains-trans f.holds_matches (same-contains (same-symm (match-same f.S p g))));
      only_matches =
          contains-trans (same-contains (match-same f.S p g)) (contains-trans f.only_matches (same-contains (same-symm g)));
    }

pub place_same :
    {P P' B B' G G' : Graph} {Agree Agree' : Relation} {w : ℕ} →
    SameGraph P P' → SameAgree P B Agree Agree' → SameGraph B B' → SameGraph G G' →
    PlaceIn P Agree B w G → PlaceIn P' Agree' B' w G'
place_same p a b g f =
    record {
      perfect = perfect-same p a b g f.perfect;
      contains = λ other o.
          contains-trans (same-contains g)
          (f.contains other (perfect-same (same-symm p) (agree-symm p b a) (same-symm b) (same_refl other) o));
    }

-- Two places are the same graph.
pub place-unique :
    {P : Graph} {Agree : Relation} {B : Graph} {w : ℕ} {G H : Graph} → PlaceIn P Agree B w G → PlaceIn P Agree B w H → SameGraph G H
place-unique g h = contains-same (g.contains _ h.perfect) (h.contains _ g.perfect)
