-- The ball's table is the largest dual simulation of the pattern in the ball, and a centre is found where it occurs in that. Assumes nothing.
use Rattle.std.specs.Prelude.{◌≡◌, ◌↔◌, ◌≤◌}
use Rattle.base_lists.specs.Kit.{◌∙◌, sym, ap, subst, iff_rfl, not, not-not, ℕ, T, length, get_or}
use Rattle.base_lists.specs.List.{any_below}
use Rattle.base_lists.proofs.Tests.{any_below-at, at-any_below}
use Rattle.base_bits.specs.Bits.{bit}
use Rattle.base_bits.proofs.Digits.{bit_below}
use Rattle.base_bits.proofs.Tests.{zero_test}
use Rattle.graph.specs.Circuit.{Circuit, graph_of, circuit_graph}
use Rattle.graph.specs.Graph.{Graph, Connected, Ball}
use Rattle.graph.proofs.Ball.{Within, inside-node}
use Rattle.graph.proofs.Distance.{in_ball-iff}
use Rattle.simulation.specs.Closed.{Relation}
use Rattle.simulation.specs.Simulation.{Largest}
use Rattle.simulation.specs.Perfect.{SameGraph}
use Rattle.simulation.proofs.Same.{same_refl, largest-same}
use Rattle.table.specs.Host.{Taken, host_graph, KindsMatch}
use Rattle.table.specs.Row.{in_table, InTable}
use Rattle.table.proofs.Sets.{fits_word}
use Rattle.table.proofs.Row.{Table}
use Rattle.table.proofs.Meaning.{last_fits, last-largest}
use Rattle.place.specs.Match.{ball_of, ball_table, found}

-- All that the laws of the place ask of a pattern and a board: the pattern has at most 32 parts, so that a set of parts is a 32-bit number,
-- has as many starts as ends and is connected; the board's links join its nodes. The circuits of two accepted files have it (Accepted).
pub record Admissible (pattern board : Circuit) : Type 0 where
  pub most : length pattern.labels ≤ 32
  pub parallel : length pattern.starts ≡ length pattern.ends
  pub connected : Connected (circuit_graph pattern)
  pub links : Within (length board.labels) board.starts board.ends

-- the ball as a graph, and the set of pairs of its table
abbrev pub ball_graph : Circuit → ℕ → ℕ → Graph
ball_graph board w r = Ball (circuit_graph board) w r

abbrev pub BallPairs : Circuit → Circuit → ℕ → ℕ → Relation
BallPairs pattern board w r = InTable (ball_table pattern board w r)

-- the table has a number per node, of as many bits as the pattern has parts
pub ball-fits : (pattern board : Circuit) (w r : ℕ) → Table pattern board (ball_table pattern board w r)
unfolding ball_table
ball-fits pattern board w r = last_fits pattern board (ball_of board w r)

module _ (board : Circuit) (links : Within (length board.labels) board.starts board.ends) (w r : ℕ) where
  -- a byte of the ball is 1 exactly at a node in the ball
  ball-taken : (v : ℕ) → Taken board (ball_of board w r) v ↔ (ball_graph board w r).Node v
  unfolding ball_of Ball circuit_graph
  ball-taken v =
      let same = in_ball-iff links w r v in (
        λ t. same.0 t.marked,
        λ b.
            let t = same.1 b in
            record { below = inside-node (length board.labels) board.starts board.ends w r v t; marked = t },
      )

  -- the nodes that the bytes take, and the links between them, are the ball
  pub taken-ball : SameGraph (host_graph board (ball_of board w r)) (ball_graph board w r)
  unfolding host_graph Ball circuit_graph graph_of
  taken-ball =
      record {
        nodes = ball-taken;
        links = λ v v'. (
          λ (l, t, t'). (l, (ball-taken v).0 t, (ball-taken v').0 t'),
          λ (l, b, b'). (l, (ball-taken v).1 b, (ball-taken v').1 b'),
        );
      }

module _ (pattern board : Circuit) (most : length pattern.labels ≤ 32) (w r : ℕ) where
  -- the centre's entry is a 32-bit number, so that the test of the whole entry is a test of each part
  found-any : found pattern board w r ≡ any_below 32 (bit (get_or (ball_table pattern board w r) w 0))
  unfolding found
  found-any =
      let x = get_or (ball_table pattern board w r) w 0 in
      ap not (zero_test 32 x (fits_word most (ball-fits pattern board w r) w)) ∙ not-not (any_below 32 (bit x))

  -- The centre is found exactly where it occurs in the ball's table.
  pub found-occurs : T (found pattern board w r) ↔ ((u : ℕ) × BallPairs pattern board w r u w)
  unfolding in_table
  found-occurs =
      let x = get_or (ball_table pattern board w r) w 0 in (
        λ t. let (u, h, m) = any_below-at 32 (bit x) (subst T found-any t) in (u, m),
        λ (u, m).
            subst T (sym found-any)
            (at-any_below 32 (bit x) u (bit_below 32 x u (fits_word most (ball-fits pattern board w r) w) m) m),
      )

module _ {pattern board : Circuit} (a : Admissible pattern board) (w r : ℕ) where
  pub ball-host : SameGraph (host_graph board (ball_of board w r)) (ball_graph board w r)
  ball-host = taken-ball board a.links w r

  -- The ball's table is the largest dual simulation of the pattern in the ball.
  pub ball-largest : Largest (circuit_graph pattern) (KindsMatch pattern board) (ball_graph board w r) (BallPairs pattern board w r)
  unfolding ball_table
  ball-largest =
      largest-same (same_refl (circuit_graph pattern)) ball-host (record { agree = λ u v m n. iff_rfl })
      (last-largest pattern board (ball_of board w r) a.most a.connected)
