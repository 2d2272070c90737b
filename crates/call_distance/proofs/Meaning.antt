-- What the replies and the entries of the two calls mean, in the terms of the graph's definitions. Assumes nothing.
use Rattle.std.specs.Prelude.{◌≡◌, ◌↔◌, ◌≢◌, ◌∷◌, ◌≤◌, ◌<◌}
use Rattle.base_lists.specs.Kit.{◌∙◌, sym, ap, subst, ⊎_elim, List, [], ℕ, length, get_or, drop, get_or-append, arith}
use Rattle.base_lists.proofs.Tests.{decide}
use Rattle.graph.specs.Circuit.{HasLink, graph_of}
use Rattle.graph.specs.Graph.{Radius, Distance, DistanceEntry, InBall, Ball}
use Rattle.graph.specs.Search.{inside, ball, distances, radius}
use Rattle.graph.proofs.Ball.{Within, within_all}
use Rattle.graph.proofs.Distance.{in_ball-iff, radius-is, length-distances, distances-entry, distance-below}
use Rattle.file_format.specs.declared.Role.{Role}
use Rattle.file_format.specs.declared.Role.TheVariants.{Pattern, Board}
use Rattle.file_format.specs.Layout.{CircuitFile, nodes_of, links_of, starts_of, ends_of}
use Rattle.file_format.specs.Refusals.{accept, first, file_conditions, asks_connected}
use Rattle.file_format.proofs.Refusals.{accepted, accepted-links, range-orders, range-bounds}
use Rattle.call_distance.specs.Calls.{radius_call, ball_call, BallOutcome, file_graph}
use Rattle.call_distance.proofs.Cases.{radius-replied, ball-filled}

-- the links of an accepted file join its nodes
pub accepted-within : (r : Role) (file : CircuitFile) → first (file_conditions r file) ≡ accept → Within (nodes_of file) (starts_of file) (ends_of file)
accepted-within r file e =
    let (s, d) = accepted-links r file (accepted r file e) in
    within_all (nodes_of file) (starts_of file) (ends_of file) s d

-- ---- the radius

-- "A pattern's radius is the largest distance between two of its parts; it is 0 for one part. A call replies with it."
pub radius-means : (file : CircuitFile) → first (file_conditions Pattern file) ≡ accept
    → (d : ℕ) × (radius_call file ≡ record { verdict = accept; values = d ∷ [] }) × Radius (file_graph file) d
unfolding asks_connected
radius-means file e =
    let a = accepted Pattern file e in
    let (n, _, _) = range-orders Pattern (nodes_of file) (links_of file) a.range in
    (radius (nodes_of file) (starts_of file) (ends_of file), radius-replied file e, radius-is (accepted-within Pattern file e) n (a.joined tt))

-- ---- the ball

-- no distance on a board is 65,535: its nodes are at most 512
pub distance-few : (file : CircuitFile) → first (file_conditions Board file) ≡ accept → (centre v d : ℕ) → centre < nodes_of file
    → Distance (file_graph file) centre v d → d < 512
distance-few file e centre v d h p =
    let few = (range-bounds Board (nodes_of file) (links_of file) (accepted Board file e).range).0 in
    omega (arith, distance-below (accepted-within Board file e) centre v d h p)

module _ (file : CircuitFile) (centre r : ℕ) (out : List ℕ) (e : first (file_conditions Board file) ≡ accept) (h : centre < nodes_of file) (room : nodes_of file ≤ length out) where
  links : Within (nodes_of file) (starts_of file) (ends_of file)
  links = accepted-within Board file e

  entry-is : (v : ℕ) → v < nodes_of file → get_or (ball_call file centre r out).out v 0 ≡ get_or (distances (nodes_of file) (starts_of file) (ends_of file) centre r) v 0
  entry-is v below =
      ap (λ (o : BallOutcome). get_or o.out v 0) (ball-filled file centre r out e h room)
      ∙ get_or-append (distances (nodes_of file) (starts_of file) (ends_of file) centre r) (drop (nodes_of file) out) 0 v
      (subst (λ (k : ℕ). v < k) (sym (length-distances (nodes_of file) (starts_of file) (ends_of file) centre r)) below)

  -- "each node's distance from the centre, and 65,535 for a node outside the ball"
  pub ball-means : (v : ℕ) → v < nodes_of file → DistanceEntry (file_graph file) centre r v (get_or (ball_call file centre r out).out v 0)
  ball-means v below =
      rw (entry-is v below) (distances-entry links centre r v 0 (let few = (range-bounds Board (nodes_of file) (links_of file) (accepted Board file e).range).0 in omega arith) below)

  -- an entry is another than 65,535 exactly when the ball has its node
  pub ball-entry : (v : ℕ) → v < nodes_of file → (get_or (ball_call file centre r out).out v 0 ≢ 65535) ↔ InBall (file_graph file) centre r v
  unfolding Ball
  ball-entry v below =
      let within = inside (ball (nodes_of file) (starts_of file) (ends_of file) centre r) v in
      let meaning = in_ball-iff links centre r v in (
        λ other. ⊎_elim (λ t. meaning.0 t) (λ f. absurd (other ((ball-means v below).outside.1 (λ m. f (meaning.1 m))))) (decide within),
        λ m q. (ball-means v below).outside.0 q m,
      )

  -- "and all board links between them": the ball's links are the board's links between nodes that have a distance
  pub ball-links : (v w : ℕ)
      → (Ball (file_graph file) centre r).Link v w
      ↔ (HasLink (starts_of file) (ends_of file) v w × (get_or (ball_call file centre r out).out v 0 ≢ 65535) × (get_or (ball_call file centre r out).out w 0 ≢ 65535))
  unfolding Ball graph_of
  ball-links v w = (
    λ (l, a, b). (l, (ball-entry v (links.starts v w l)).1 a, (ball-entry w (links.ends v w l)).1 b),
    λ (l, a, b). (l, (ball-entry v (links.starts v w l)).0 a, (ball-entry w (links.ends v w l)).0 b),
  )
