-- Merging keeps what is found: at every centre and every radius the pattern and the merged pattern have the same place, and the bytes
-- that mark it are the same. Assumes nothing.
use Rattle.std.specs.Prelude.{◌≡◌, ◌↔◌, ◌&&◌, ◌<◌}
use Rattle.base_lists.specs.Kit.{sym, ap, refl, subst, ap₂, fun_ext, iff_rfl, Bool, cond, List, ℕ, zero, length, get_or}
use Rattle.base_lists.specs.List.{tabulate}
use Rattle.base_lists.proofs.Tests.{same_test}
use Rattle.graph.specs.Circuit.{Circuit, graph_of, circuit_graph}
use Rattle.graph.specs.Search.{ball, inside}
use Rattle.simulation.specs.Simulation.{Largest}
use Rattle.simulation.specs.Quotient.{QuotientGraph}
use Rattle.simulation.proofs.Same.{same_refl, largest-same}
use Rattle.simulation.proofs.Quotient.{same-pairs}
use Rattle.table.specs.Host.{KindsMatch}
use Rattle.place.specs.Match.{ball_table, found, matches, link_matches, match_starts, match_ends, component, place_nodes, place_links}
use Rattle.base_lists.specs.Below.{keep_from}
use Rattle.place.proofs.Ball.{Admissible, ball_graph, BallPairs, ball-largest, found-occurs}
use Rattle.place.proofs.Links.{matches-iff}
use Rattle.merge.specs.Merged.{class_of, merged}
use Rattle.merge.proofs.Content.{PatternContent, content-admissible}
use Rattle.merge.proofs.Classes.{content-joins}
use Rattle.merge.proofs.Merging.{merged-graph, merging}
use Rattle.merge.proofs.Accepted.{merged-content}

-- Two patterns have the same answer on a board around w at radius r: both are found or neither, with the same bytes for nodes and links.
pub record SameAnswer (p q board : Circuit) (w r : ℕ) : Type 0 where
  pub found : found p board w r ≡ found q board w r
  pub nodes : place_nodes p board w r ≡ place_nodes q board w r
  pub links : place_links p board w r ≡ place_links q board w r

module _ {p board : Circuit} (c : PatternContent p) (admissible : Admissible p board) (w r : ℕ) where
  -- ---- pairs

  merged-admissible : Admissible (merged p) board
  merged-admissible = content-admissible (merged-content c) admissible.links

  merged-largest :
      Largest (QuotientGraph (circuit_graph p) (class_of p)) (KindsMatch (merged p) board) (ball_graph board w r) (BallPairs (merged p) board w r)
  merged-largest =
      largest-same (merged-graph c) (same_refl _) (record { agree = λ u v m n. iff_rfl }) (ball-largest merged-admissible w r)

  -- In the ball a part matches exactly what its class matches:
  pub pairs-iff : (u v : ℕ) → u < length p.labels → BallPairs p board w r u v ↔ BallPairs (merged p) board w r (class_of p u) v
  unfolding circuit_graph graph_of
  pairs-iff u v h = same-pairs (merging c board) (ball-largest admissible w r) merged-largest u v h

  -- a class has the pairs of each member,
  up : (u v : ℕ) → BallPairs p board w r u v → BallPairs (merged p) board w r (class_of p u) v
  unfolding circuit_graph graph_of
  up u v s = (pairs-iff u v ((ball-largest admissible w r).holds.part u v s)).0 s

  -- and each member has those of its class.
  down : (u a v : ℕ) → u < length p.labels → class_of p u ≡ a → BallPairs (merged p) board w r a v → BallPairs p board w r u v
  down u a v h e m = (pairs-iff u v h).1 (subst (λ x. BallPairs (merged p) board w r x v) (sym e) m)

  -- ---- the bytes

  found-same : found p board w r ≡ found (merged p) board w r
  unfolding QuotientGraph circuit_graph graph_of
  found-same =
      same_test
      (λ t. let (u, s) = (found-occurs p board admissible.most w r).0 t in (found-occurs (merged p) board merged-admissible.most w r).1 (class_of p u, up u w s))
      (λ t.
      let (a, m) = (found-occurs (merged p) board merged-admissible.most w r).0 t in
      let (u, h, e) = merged-largest.holds.part a w m in
      (found-occurs p board admissible.most w r).1 (u, down u a w h e m))

  -- a pair of nodes matches a link of the one where it matches a link of the other
  matches-same : (v v' : ℕ) → matches p (ball_table p board w r) v v' ≡ matches (merged p) (ball_table (merged p) board w r) v v'
  unfolding QuotientGraph circuit_graph graph_of
  matches-same v v' =
      let means = matches-iff p admissible.parallel (ball_table p board w r) v v' in
      let meansMerged = matches-iff (merged p) merged-admissible.parallel (ball_table (merged p) board w r) v v' in
      same_test
      (λ t.
      let (u, u', l, s, s') = means.0 t in
      meansMerged.1 (class_of p u, class_of p u', ((merged-graph c).links _ _).1 (u, u', l, refl, refl), up u v s, up u' v' s'))
      (λ t.
      let (a, b, l, m, m') = meansMerged.0 t in
      let (u, u', k, e, e') = ((merged-graph c).links a b).0 l in
      means.1 (u, u', k, down u a v ((content-joins c).starts u u' k) e m, down u' b v' ((content-joins c).ends u u' k) e' m'))

  links-same : link_matches p board (ball_table p board w r) ≡ link_matches (merged p) board (ball_table (merged p) board w r)
  unfolding link_matches
  links-same = fun_ext (λ i. matches-same (get_or board.starts i 0) (get_or board.ends i 0))

  nodes-same : place_nodes p board w r ≡ place_nodes (merged p) board w r
  unfolding place_nodes component match_starts match_ends
  nodes-same =
      let n = length board.labels in
      ap (λ (match : ℕ → Bool). ball n (keep_from zero match board.starts) (keep_from zero match board.ends) w n) links-same

  -- Merging keeps what is found.
  pub merged-answer : SameAnswer p (merged p) board w r
  unfolding place_links
  merged-answer =
      record {
        found = found-same;
        nodes = nodes-same;
        links =
            ap₂
            (λ (match : ℕ → Bool) (nodes : List ℕ). tabulate (length board.starts) (λ i. cond (match i && inside nodes (get_or board.starts i 0)) 1 0))
            links-same nodes-same;
      }
