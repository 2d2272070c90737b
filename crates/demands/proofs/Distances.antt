-- Document 02, Ask 2, holds: each entry is a distance or 65,535, in the ball lookup and in both place calls. Assumes
-- nothing.
use Rattle.std.specs.Prelude.{◌≡◌}
use Rattle.base_lists.specs.Kit.{◌∙◌, sym, ap, refl, subst, List, ℕ, length, get_or, drop, drop_at}
use Rattle.graph.specs.Circuit.{circuit_graph, graph_of}
use Rattle.graph.specs.Graph.{Graph, Distance, DistanceEntry}
use Rattle.graph.proofs.Distance.{length-distances}
use Rattle.graph.proofs.Walks.{radius-unique}
use Rattle.file_format.specs.Circuit.{circuit_of}
use Rattle.file_format.specs.Layout.{CircuitFile, nodes_of, starts_of, ends_of}
use Rattle.file_format.specs.Reading.{filled}
use Rattle.file_format.specs.Refusals.{Verdict, accept, refuse, first}
use Rattle.file_format.proofs.Fields.{length-labels}
use Rattle.file_format.proofs.Refusals.{accepted-verdict, accept-not-refuse}
use Rattle.place.specs.Match.{radius_of}
use Rattle.place.proofs.Accepted.{accepted-radius}
use Rattle.call_distance.specs.Calls.{ball_conditions, ball_entries, ball_call, BallOutcome, file_graph}
use Rattle.call_distance.proofs.Cases.{ball-filled}
use Rattle.call_distance.proofs.Meaning.{ball-means, distance-few}
use Rattle.call_place.specs.Call.{input_conditions}
use Rattle.call_place.proofs.Promise.{input-refused, board-accepted, pattern-accepted, centre-inside, distances_room, distances-ball}
use Rattle.demands.specs.Demands.{graph, Lent, placed, placed_own}
use Rattle.demands.specs.Distances.{Ask2}

-- the graph of a file, from its N and from its kinds
same_graph : (file : CircuitFile) → file_graph file ≡ graph file
unfolding circuit_graph
same_graph file = ap (λ (n : ℕ). graph_of n (starts_of file) (ends_of file)) (sym (length-labels file))

-- what is past the board's N entries stays, refused or not
rest-by : (board : CircuitFile) (w r : ℕ) (out : List ℕ) (v : Verdict) → drop (nodes_of board) (filled v (ball_entries board w r) out) ≡ drop (nodes_of board) out
unfolding ball_entries filled
rest-by board w r out accept =
    let size = length-distances (nodes_of board) (starts_of board) (ends_of board) w r in
    drop_at (ball_entries board w r) _ (nodes_of board) size ∙ ap (λ (k : ℕ). drop k out) size
rest-by board w r out (refuse x) = refl

-- an accepted call has conditions that all fail
module _ (pattern board : CircuitFile) (w r : ℕ) (lent : Lent) (ok : (placed pattern board w r lent).reply.verdict ≡ accept) where
  abbrev inputs : Verdict
  inputs = first (input_conditions pattern board w (length lent.nodes) (length lent.links) (length lent.table) (length lent.distances))

  sound : inputs ≡ accept
  unfolding placed
  sound = go inputs refl
    where
      go : (v : Verdict) → inputs ≡ v → inputs ≡ accept
      go accept e = e
      go (refuse x) e =
          absurd (accept-not-refuse (sym ok ∙ (input-refused pattern board w r lent.nodes lent.links lent.table lent.distances x e).0))

  given : (placed pattern board w r lent).distances ≡ (ball_call board w r lent.distances).out
  unfolding placed
  given =
      let board-ok = accepted-verdict (board-accepted pattern board w r lent.nodes lent.links lent.table lent.distances sound) in
      let inside = centre-inside pattern board w r lent.nodes lent.links lent.table lent.distances sound in
      let room = distances_room pattern board w r lent.nodes lent.links lent.table lent.distances sound in
      distances-ball pattern board w r lent.nodes lent.links lent.table lent.distances sound ok
      ∙ sym (ap (λ (o : BallOutcome). o.out) (ball-filled board w r lent.distances board-ok inside room))

-- "How far from the probe": the ball lookup's entries, and those of both place calls.
pub ask-2 : Ask2
unfolding ball_call placed_own
ask-2 =
    record {
      ball = λ board w r out a h room v below.
          subst (λ (G : Graph). DistanceEntry G w r v (get_or (ball_call board w r out).out v 0)) (same_graph board) (ball-means board w r out (accepted-verdict a) h room v below);
      rest = λ board w r out. rest-by board w r out (first (ball_conditions board w (length out)));
      near = λ board w v d a h p. distance-few board (accepted-verdict a) w v d h (subst (λ (G : Graph). Distance G w v d) (sym (same_graph board)) p);
      given = given;
      own = λ pattern board w lent ok r is.
          let a = pattern-accepted pattern board w (radius_of (circuit_of pattern)) lent.nodes lent.links lent.table lent.distances (sound pattern board w _ lent ok) in
          given pattern board w _ lent ok ∙ ap (λ (k : ℕ). (ball_call board w k lent.distances).out) (radius-unique (accepted-radius a) is);
    }
