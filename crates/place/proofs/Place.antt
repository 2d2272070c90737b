-- What the bytes mark is the place, the perfect subgraph that contains every other; and the centre is not found exactly where there is no
-- perfect subgraph. Assumes nothing.
use Rattle.std.specs.Prelude.{◌↔◌}
use Rattle.base_lists.specs.Kit.{sym, subst, iff_rfl, iff_trans, iff_symm, ℕ, le_refl, le_step, T, length}
use Rattle.graph.specs.Circuit.{Circuit, HasLink, circuit_graph}
use Rattle.graph.specs.Graph.{Graph}
use Rattle.graph.specs.Search.{inside}
use Rattle.graph.proofs.Ball.{Within, walk-node}
use Rattle.graph.proofs.Ball as ball
use Rattle.simulation.specs.Closed.{Restrict}
use Rattle.simulation.specs.Simulation.{Largest}
use Rattle.simulation.specs.Perfect.{MatchGraph, Perfect, Place, SameGraph, Component, MatchComponent}
use Rattle.simulation.proofs.Same.{same_refl, same-symm, place_same, largest-same-set}
use Rattle.simulation.proofs.Walks.{wider-walk}
use Rattle.simulation.proofs.Place.{component-place, perfect-occurs, place-largest}
use Rattle.table.specs.Host.{KindsMatch}
use Rattle.table.specs.Row.{InTable}
use Rattle.table.proofs.Sets.{fits-node}
use Rattle.place.specs.Match.{ball_table, found, match_starts, match_ends, component, place_nodes, place_links, place_table, marked_graph}
use Rattle.place.proofs.Ball.{Admissible, ball_graph, BallPairs, ball-fits, ball-largest, found-occurs}
use Rattle.place.proofs.Links.{link-matches, match-kept, match-within, match-links}
use Rattle.place.proofs.Marks.{link-marked, table-in}

-- the subgraph of the board that the place's bytes mark
abbrev pub place_graph : Circuit → Circuit → ℕ → ℕ → Graph
place_graph pattern board w r = marked_graph board (place_nodes pattern board w r) (place_links pattern board w r)

-- the component of the centre in the match graph of the ball's table
abbrev pub centre_component : Circuit → Circuit → ℕ → ℕ → Graph
centre_component pattern board w r = MatchComponent (circuit_graph pattern) (ball_graph board w r) (BallPairs pattern board w r) w

-- the centre occurs in the ball's table
abbrev pub CentreOccurs : Circuit → Circuit → ℕ → ℕ → Type 0
CentreOccurs pattern board w r = (u : ℕ) × BallPairs pattern board w r u w

module _ {pattern board : Circuit} (a : Admissible pattern board) (w r : ℕ) where
  -- ---- the bytes mark the centre's component

  -- the kept lists hold the links of the match graph
  pub kept-links :
      (v v' : ℕ) →
      HasLink (match_starts pattern board (ball_table pattern board w r)) (match_ends pattern board (ball_table pattern board w r)) v v' ↔
      (MatchGraph (circuit_graph pattern) (ball_graph board w r) (BallPairs pattern board w r)).Link v v'
  kept-links v v' = iff_trans (match-kept pattern board (ball_table pattern board w r) v v') (iff_symm (match-links a w r v v'))

  -- a walk along kept links is one of the match graph, so the bytes of the nodes mark the centre's component
  pub component-iff : CentreOccurs pattern board w r → (v : ℕ) → T (inside (place_nodes pattern board w r) v) ↔ (centre_component pattern board w r).Node v
  unfolding place_nodes component Component
  component-iff (u, m) v =
      let t = ball_table pattern board w r in
      let links : Within (length board.labels) (match_starts pattern board t) (match_ends pattern board t) = match-within pattern board t a.links in
      let same = ball.component-iff links w (length board.labels) (le_step (le_refl _)) v in (
        λ b. let (h, (k, p)) = same.0 b in (k, wider-walk (λ x y. (kept-links x y).0) p),
        λ (k, p).
            let q = wider-walk (λ x y. (kept-links x y).1) p in
            same.1 (walk-node links q (fits-node (ball-fits pattern board w r) u w m), (k, q)),
      )

  -- The bytes mark the component of the centre in the match graph.
  pub marked-component : CentreOccurs pattern board w r → SameGraph (place_graph pattern board w r) (centre_component pattern board w r)
  unfolding marked_graph Component HasLink
  marked-component centre =
      record {
        nodes = component-iff centre;
        links = λ v v'. (
          λ (i, l, t).
              let (h, m, n) = (link-marked pattern board w r i).0 t in (
                (match-links a w r v v').1 ((i, l), subst T (link-matches pattern board _ l) m),
                (component-iff centre v).0 (subst (λ x. T (inside (place_nodes pattern board w r) x)) l.start n),
              ),
          λ (m, n).
              let ((i, l), t) = (match-links a w r v v').0 m in (
                i,
                l,
                (link-marked pattern board w r i).1 (
                  l.in_starts,
                  subst T (sym (link-matches pattern board _ l)) t,
                  subst (λ x. T (inside (place_nodes pattern board w r) x)) (sym l.start) ((component-iff centre v).1 n),
                ),
              ),
        );
      }

  -- ---- the place

  -- Where the centre is found, what the bytes mark is the place, "the perfect subgraph around w at radius r that contains every other".
  pub place_found :
      T (found pattern board w r) →
      Place (circuit_graph pattern) (KindsMatch pattern board) (circuit_graph board) w r (place_graph pattern board w r)
  place_found t =
      let centre = (found-occurs pattern board a.most w r).0 t in
      place_same (same_refl (circuit_graph pattern)) (record { agree = λ u v m n. iff_rfl }) (same_refl (ball_graph board w r))
      (same-symm (marked-component centre)) (component-place (ball-largest a w r) w a.connected centre)

  -- Where it is not, there is no perfect subgraph,
  pub place_none :
      (T (found pattern board w r) → ⊥) →
      (G : Graph) → Perfect (circuit_graph pattern) (KindsMatch pattern board) (circuit_graph board) w r G → ⊥
  place_none none G g = none ((found-occurs pattern board a.most w r).1 (perfect-occurs (ball-largest a w r) w g))

  -- and only there.
  pub none-iff :
      (T (found pattern board w r) → ⊥) ↔
      ((G : Graph) → Perfect (circuit_graph pattern) (KindsMatch pattern board) (circuit_graph board) w r G → ⊥)
  none-iff = (place_none, λ none t. none _ (place_found t).perfect)

  -- So the centre is found exactly where there is a place.
  pub found-place :
      T (found pattern board w r) ↔
      ((G : Graph) × Place (circuit_graph pattern) (KindsMatch pattern board) (circuit_graph board) w r G)
  found-place = (λ t. (_, place_found t), λ (G, g). (found-occurs pattern board a.most w r).1 (perfect-occurs (ball-largest a w r) w g.perfect))

  -- The table over the place is the largest dual simulation in the place itself.
  pub place-table :
      T (found pattern board w r) →
      Largest (circuit_graph pattern) (KindsMatch pattern board) (place_graph pattern board w r) (InTable (place_table pattern board w r))
  unfolding marked_graph Restrict
  place-table t =
      largest-same-set (λ u v. (table-in pattern board w r u v).1) (λ u v. (table-in pattern board w r u v).0)
      (place-largest (ball-largest a w r) w a.connected (place_found t))
