-- Document 02, Ask 2, "How far from the probe": what the entries mean, of the ball lookup and of both place calls.
-- proofs/Distances proves it. That the lengths count under 8, and that a refusal touches no table, is demand 1 (Demands
-- `placed_conditions`, `Untouched`).
use Rattle.std.specs.Prelude.{◌≡◌, ◌≤◌, ◌<◌}
use Rattle.base_lists.specs.Kit.{List, ℕ, length, get_or, drop}
use Rattle.graph.specs.Graph.{Distance, DistanceEntry, Radius}
use Rattle.file_format.specs.declared.Role.TheVariants.{Board}
use Rattle.file_format.specs.Layout.{CircuitFile, nodes_of}
use Rattle.file_format.specs.Refusals.{accept, Accepted}
use Rattle.call_distance.specs.Calls.{ball_call}
use Rattle.demands.specs.Demands.{graph, Lent, placed, placed_own}

pub record Ask2 : Type 0 where
  -- "The ball lookup .. now fills N entries of 16 bits in place of its bytes: each node's distance from the centre, and
  -- 65,535 for a node outside the ball."
  pub ball : (board : CircuitFile) (w r : ℕ) (out : List ℕ) → Accepted Board board → w < nodes_of board → nodes_of board ≤ length out →
      (v : ℕ) → v < nodes_of board → DistanceEntry (graph board) w r v (get_or (ball_call board w r out).out v 0)
  pub rest : (board : CircuitFile) (w r : ℕ) (out : List ℕ) → drop (nodes_of board) (ball_call board w r out).out ≡ drop (nodes_of board) out
  -- no distance on a board is 65,535: its nodes are at most 512
  pub near : (board : CircuitFile) (w v d : ℕ) → Accepted Board board → w < nodes_of board → Distance (graph board) w v d → d < 512
  -- "Both place calls fill one more table with these entries for their ball, whether a node is in the place or not":
  -- where the call accepts, that table is left as the ball lookup leaves it at the same centre and radius.
  pub given : (pattern board : CircuitFile) (w r : ℕ) (lent : Lent) → (placed pattern board w r lent).reply.verdict ≡ accept →
      (placed pattern board w r lent).distances ≡ (ball_call board w r lent.distances).out
  pub own : (pattern board : CircuitFile) (w : ℕ) (lent : Lent) → (placed_own pattern board w lent).reply.verdict ≡ accept →
      (r : ℕ) → Radius (graph pattern) r → (placed_own pattern board w lent).distances ≡ (ball_call board w r lent.distances).out
