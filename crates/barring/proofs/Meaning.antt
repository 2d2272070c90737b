-- The test of chosen links means barring: it says whether the largest set of pairs that meets kinds and those links alone has a pair with the
-- centre. Assumes nothing.
use Rattle.std.specs.Prelude.{◌↔◌, ◌≤◌}
use Rattle.base_lists.specs.Kit.{List, ℕ, T, length, T_not, not_T}
use Rattle.graph.specs.Chosen.{chosen, ChosenLink}
use Rattle.graph.specs.Circuit.{Circuit, graph_of, circuit_graph}
use Rattle.graph.proofs.Ball.{Within}
use Rattle.graph.proofs.Chosen.{chosen-iff}
use Rattle.simulation.specs.Closed.{Relation, ◌⊆◌, LargestClosed}
use Rattle.simulation.specs.Perfect.{SameGraph}
use Rattle.simulation.specs.Simulation.{Candidate, Along}
use Rattle.simulation.proofs.Closed.{fewer-steps, largest-closed-same}
use Rattle.simulation.proofs.Simulation.{along-wider}
use Rattle.table.specs.Host.{host_graph, KindsMatch}
use Rattle.table.proofs.Meaning.{last-closed}
use Rattle.place.specs.Match.{ball_of, ball_table, found}
use Rattle.place.proofs.Ball.{ball_graph, BallPairs, taken-ball, found-occurs}
use Rattle.barring.specs.Barring.{BarsIn}
use Rattle.barring.specs.Least.{bars}
use Rattle.barring.proofs.Procedure.{Fewer}

module _ (pattern board : Circuit) (most : length pattern.labels ≤ 32) (links : Within (length board.labels) board.starts board.ends) (w r : ℕ) where
  -- the pairs of the ball's last table for the chosen links
  abbrev Pairs : List ℕ → Relation
  Pairs marks = BallPairs (chosen pattern marks) board w r

  abbrev same : SameGraph (host_graph board (ball_of board w r)) (ball_graph board w r)
  same = taken-ball board links w r

  -- They are the largest set that meets kinds and the chosen links alone, all parts kept and none required to occur.
  pub chosen-largest :
      (marks : List ℕ) →
      LargestClosed (Candidate (circuit_graph pattern) (KindsMatch pattern board) (ball_graph board w r)) (Along (ChosenLink pattern marks)) (Along (ball_graph board w r).Link)
      (Pairs marks)
  unfolding ball_table circuit_graph graph_of chosen KindsMatch
  chosen-largest marks =
      largest-closed-same
      (λ u v c. record { part = c.part; node = (same.nodes v).0 c.node; kinds = c.kinds })
      (λ u v c. record { part = c.part; node = (same.nodes v).1 c.node; kinds = c.kinds })
      (along-wider (λ u u'. (chosen-iff pattern marks u u').0))
      (along-wider (λ u u'. (chosen-iff pattern marks u u').1))
      (along-wider (λ v v'. (same.links v v').0))
      (along-wider (λ v v'. (same.links v v').1))
      (last-closed (chosen pattern marks) board (ball_of board w r) most)

  -- the centre occurs in it where the test says that they do not bar, and only there
  pub bars-none : (marks : List ℕ) → T (bars pattern board w r marks) ↔ ((u : ℕ) → Pairs marks u w → ⊥)
  unfolding bars chosen
  bars-none marks =
      let occurs = found-occurs (chosen pattern marks) board most w r in (
        λ t u m. T_not (found (chosen pattern marks) board w r) t (occurs.1 (u, m)),
        λ none. not_T (found (chosen pattern marks) board w r) (λ f. let (u, m) = occurs.0 f in none u m),
      )

  -- A set of links that bars is barring still with more: so says the test of any choice that has them all.
  pub barring-more : (L : Relation) (marks : List ℕ) → L ⊆ ChosenLink pattern marks → BarsIn (circuit_graph pattern) (KindsMatch pattern board) (ball_graph board w r) w L →
      T (bars pattern board w r marks)
  barring-more L marks fewer b =
      (bars-none marks).1
      (λ u m. b.none u (b.largest.contains (Pairs marks) (fewer-steps (along-wider fewer) (chosen-largest marks).closed) u w m))

  -- The test says that the chosen links bar exactly when they do.
  pub bars-iff : (marks : List ℕ) → T (bars pattern board w r marks) ↔ BarsIn (circuit_graph pattern) (KindsMatch pattern board) (ball_graph board w r) w (ChosenLink pattern marks)
  bars-iff marks = (
    λ t. record { S = Pairs marks; largest = chosen-largest marks; none = (bars-none marks).0 t },
    barring-more (ChosenLink pattern marks) marks (λ u u' l. l),
  )

  -- and with more links marked they bar still
  pub bars-upward : (a b : List ℕ) → Fewer a b → T (bars pattern board w r a) → T (bars pattern board w r b)
  unfolding ChosenLink
  bars-upward a b few t = barring-more (ChosenLink pattern a) b (λ u u' l. (l.0, l.1, few l.0 l.2)) ((bars-iff a).0 t)
