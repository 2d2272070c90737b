-- The place is the component of the centre in the match graph of the largest dual simulation, and there is none where the centre does not
-- occur in that. Assumes nothing.
use Rattle.std.specs.Prelude.{◌↔◌}
use Rattle.base_lists.specs.Kit.{inl, inr, iff_rfl, ℕ}
use Rattle.graph.specs.Graph.{Graph, Subgraph, Contains, Connected, Walk, stay, step}
use Rattle.simulation.specs.Closed.{Relation, ◌⊆◌, Closed, Restrict}
use Rattle.simulation.specs.Simulation.{Largest, Candidate, Direction, forwards, backwards, Along}
use Rattle.simulation.specs.Perfect.{MatchGraph, PerfectIn, PlaceIn, Component, MatchComponent, Joined}
use Rattle.simulation.proofs.Closed.{restrict-closed}
use Rattle.simulation.proofs.Simulation.{dual-closed, closed-dual, connected-occurring, dual-subgraph}
use Rattle.simulation.proofs.Walks.{wider-walk}
use Rattle.simulation.proofs.Same.{same_refl, contains-trans, largest-same, largest-same-set, place-unique}
use Rattle.simulation.proofs.Component.{component-centre, component-along, component-connected}

-- a pattern's link between two pairs, and a link of the graph between their nodes, make a link of the match graph; in either direction
match-along :
    (P H : Graph) (S : Relation) (d : Direction) (u v u' v' : ℕ) → S u v → S u' v' →
    Along P.Link d u u' → Along H.Link d v v' → Along (MatchGraph P H S).Link d v v'
unfolding Along MatchGraph
match-along P H S forwards u v u' v' s s' p l = (l, (u, u', p, s, s'))
match-along P H S backwards u v u' v' s s' p l = (l, (u', u, p, s', s))

-- the match graph grows with the graph and the set
pub match-wider :
    (P : Graph) {G H : Graph} {R S : Relation} → Contains H G → R ⊆ S → Contains (MatchGraph P H S) (MatchGraph P G R)
unfolding MatchGraph
match-wider P g wider =
    record {
      nodes = λ v (u, s). (u, wider u v s);
      links = λ v v' (l, (u, u', p, s, s')). (g.links v v' l, (u, u', p, wider u v s, wider u' v' s'));
    }

subgraph-contains : {G H : Graph} → Subgraph G H → Contains H G
subgraph-contains g = record { nodes = g.nodes; links = g.links }

module _ {P : Graph} {Agree : Relation} {B : Graph} {S : Relation} (largest : Largest P Agree B S) (w : ℕ) where
  -- each node of the component occurs in the set, if the centre does
  component-occurs : (v : ℕ) → (u : ℕ) × S u w → (MatchComponent P B S w).Node v → (u : ℕ) × S u v
  unfolding Component MatchGraph
  component-occurs v centre (n, walk) = ends walk
    where
      ends : {v n : ℕ} → Walk (MatchGraph P B S).Link w v n → (u : ℕ) × S u v
      ends stay = centre
      ends (step walk (inl l)) = (l.1.1, l.1.4)
      ends (step walk (inr l)) = (l.1.0, l.1.3)

  component-subgraph : (u : ℕ) × S u w → Subgraph (MatchComponent P B S w) B
  unfolding Component MatchGraph Along
  component-subgraph centre =
      record {
        nodes = λ v n. let (u, s) = component-occurs v centre n in largest.holds.node u v s;
        links = λ v v' l. l.0.0;
        starts = λ v v' l. l.1;
        ends = λ v v' l. (component-along (MatchGraph P B S) w forwards v v' l.1 l.0).1;
      }

  -- The set cut to the component is the largest dual simulation in the component itself.
  pub component-largest :
      Connected P → (u : ℕ) × S u w → Largest P Agree (MatchComponent P B S w) (Restrict S (MatchComponent P B S w).Node)
  unfolding Restrict
  component-largest connected centre =
      record {
        holds = closed-dual cut (connected-occurring connected cut);
        contains = λ R r u v m. (largest.contains R (dual-subgraph (component-subgraph centre) r) u v m, r.node u v m);
      }
    where
      C : Graph
      C = MatchComponent P B S w

      cut : Closed (Candidate P Agree C) (Along P.Link) (Along C.Link) (Restrict S C.Node)
      cut =
          restrict-closed C.Node (λ u v c n. record { part = c.part; node = n; kinds = c.kinds })
          (λ d u v u' v' s s' n p l. component-along (MatchGraph P B S) w d v v' n (match-along P B S d u v u' v' s s' p l))
          (dual-closed largest.holds)

  -- The centre's component is a perfect subgraph, if the centre occurs.
  pub component-perfect : Connected P → (u : ℕ) × S u w → PerfectIn P Agree B w (MatchComponent P B S w)
  unfolding Component MatchGraph Restrict Along
  component-perfect connected centre =
      record {
        subgraph = component-subgraph centre;
        connected = component-connected (MatchGraph P B S) w;
        centre = component-centre (MatchGraph P B S) w;
        S = Restrict S (MatchComponent P B S w).Node;
        largest = component-largest connected centre;
        pair = (centre.0, w, (centre.1, component-centre (MatchGraph P B S) w));
        holds_matches = record { nodes = λ v m. m.1.1; links = λ v v' l. l.0 };
        only_matches =
            record {
              nodes = λ v n. let (u, s) = component-occurs v centre n in (u, (s, n));
              links = λ v v' l.
                  let end = (component-along (MatchGraph P B S) w forwards v v' l.1 l.0).1 in
                  let (u, u', p, s, s') = l.0.1 in
                  (l, (u, u', p, (s, l.1), (s', end)));
            };
      }

  -- what matches in a perfect subgraph matches in the whole
  perfect-matches : {G : Graph} (g : PerfectIn P Agree B w G) → g.S ⊆ S
  perfect-matches g = largest.contains g.S (dual-subgraph g.subgraph g.largest.holds)

  perfect-contained : {G : Graph} → PerfectIn P Agree B w G → Contains (MatchGraph P B S) G
  perfect-contained g =
      contains-trans (match-wider P (subgraph-contains g.subgraph) (perfect-matches g)) g.only_matches

  -- The centre of a perfect subgraph occurs.
  pub perfect-occurs : {G : Graph} → PerfectIn P Agree B w G → (u : ℕ) × S u w
  unfolding MatchGraph
  perfect-occurs g = (perfect-contained g).nodes w g.centre

  -- The centre's component contains every perfect subgraph.
  pub component-contains : {G : Graph} → PerfectIn P Agree B w G → Contains (MatchComponent P B S w) G
  unfolding Component Connected
  component-contains {G} g =
      record { nodes = joined; links = λ v v' l. ((perfect-contained g).links v v' l, joined v (g.subgraph.starts v v' l)) }
    where
      joined : (v : ℕ) → G.Node v → Joined (MatchGraph P B S).Link w v
      joined v n =
          let (k, walk) = g.connected w v g.centre n in
          (k, wider-walk (perfect-contained g).links walk)

  -- So the component is the place, if the centre occurs; and there is none if not.
  pub component-place : Connected P → (u : ℕ) × S u w → PlaceIn P Agree B w (MatchComponent P B S w)
  component-place connected centre =
      record { perfect = component-perfect connected centre; contains = λ other g. component-contains g }

  pub place_none : ¬ ((u : ℕ) × S u w) → (G : Graph) → ¬ PerfectIn P Agree B w G
  place_none none G g = none (perfect-occurs g)

  pub perfect-iff : Connected P → ((u : ℕ) × S u w) ↔ ((G : Graph) × PerfectIn P Agree B w G)
  perfect-iff connected = (λ centre. (_, component-perfect connected centre), λ (G, g). perfect-occurs g)

  -- In every place the set cut to it is the largest dual simulation in the place itself.
  pub place-largest : {G : Graph} → Connected P → PlaceIn P Agree B w G → Largest P Agree G (Restrict S G.Node)
  unfolding Restrict
  place-largest connected g =
      let centre = perfect-occurs g.perfect in
      let same = place-unique (component-place connected centre) g in
      largest-same-set (λ u v (s, n). (s, (same.nodes v).0 n)) (λ u v (s, n). (s, (same.nodes v).1 n))
      (largest-same (same_refl P) same (record { agree = λ u v m n. iff_rfl }) (component-largest connected centre))
