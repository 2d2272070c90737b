-- The links that match: what the test means, and that the kept lists hold the links of the match graph. Assumes nothing.
use Rattle.std.specs.Prelude.{◌≡◌, ◌↔◌, ◌&&◌, ◌<◌}
use Rattle.base_lists.specs.Kit.{sym, refl, subst, ap₂, Bool, List, ℕ, T, length, get_or}
use Rattle.base_lists.proofs.Tests.{both_true, both_left, both_right, any_below-at, at-any_below}
use Rattle.graph.specs.Circuit.{Circuit, LinkAt, HasLink, graph_of, circuit_graph}
use Rattle.graph.specs.Graph.{Ball}
use Rattle.graph.proofs.Ball.{Within}
use Rattle.graph.proofs.Chosen.{kept-iff}
use Rattle.simulation.specs.Perfect.{MatchGraph}
use Rattle.table.specs.Row.{in_table, InTable}
use Rattle.place.specs.Match.{matches, link_matches, match_starts, match_ends, ball_table}
use Rattle.place.proofs.Ball.{Admissible, ball_graph, BallPairs, ball-largest}

-- ---- the test of a link

-- "the pattern has a link (u, u') with (u, v) and (u', v') in S"
abbrev pub Matches : Circuit → List ℕ → ℕ → ℕ → Type 0
Matches pattern t v v' = (u : ℕ) × (u' : ℕ) × HasLink pattern.starts pattern.ends u u' × InTable t u v × InTable t u' v'

pub matches-iff :
    (pattern : Circuit) → length pattern.starts ≡ length pattern.ends → (t : List ℕ) (v v' : ℕ) →
    T (matches pattern t v v') ↔ Matches pattern t v v'
unfolding matches HasLink
matches-iff pattern parallel t v v' = (
  λ m.
      let (i, h, b) = any_below-at (length pattern.starts) passes m in (
        start i,
        end i,
        (i, record { in_starts = h; in_ends = subst (λ x. i < x) parallel h; start = refl; end = refl }),
        both_left (in_table t (start i) v) (in_table t (end i) v') b,
        both_right (in_table t (start i) v) (in_table t (end i) v') b,
      ),
  λ (u, u', (i, l), s, s').
      at-any_below (length pattern.starts) passes i l.in_starts
      (both_true (in_table t (start i) v) (in_table t (end i) v') (subst (λ x. InTable t x v) (sym l.start) s) (subst (λ x. InTable t x v') (sym l.end) s')),
)
  where
    start : ℕ → ℕ
    start i = get_or pattern.starts i 0

    end : ℕ → ℕ
    end i = get_or pattern.ends i 0

    passes : ℕ → Bool
    passes i = in_table t (start i) v && in_table t (end i) v'

-- ---- the match graph's links

-- a link of the board matches when its nodes do
pub link-matches :
    (pattern board : Circuit) (t : List ℕ) {v v' i : ℕ} → LinkAt board.starts board.ends v v' i →
    link_matches pattern board t i ≡ matches pattern t v v'
unfolding link_matches
link-matches pattern board t l = ap₂ (matches pattern t) l.start l.end

-- The kept lists hold exactly the board's links that match.
pub match-kept :
    (pattern board : Circuit) (t : List ℕ) (v v' : ℕ) →
    HasLink (match_starts pattern board t) (match_ends pattern board t) v v' ↔ (HasLink board.starts board.ends v v' × T (matches pattern t v v'))
unfolding match_starts match_ends HasLink
match-kept pattern board t v v' =
    let kept = kept-iff (link_matches pattern board t) board.starts board.ends v v' in (
      λ k. let (i, l, m) = kept.0 k in ((i, l), subst T (link-matches pattern board t l) m),
      λ ((i, l), m). kept.1 (i, l, subst T (sym (link-matches pattern board t l)) m),
    )

-- so they start and end at nodes where the board's do
pub match-within :
    (pattern board : Circuit) (t : List ℕ) → Within (length board.labels) board.starts board.ends →
    Within (length board.labels) (match_starts pattern board t) (match_ends pattern board t)
match-within pattern board t links =
    record {
      starts = λ v v' l. links.starts v v' ((match-kept pattern board t v v').0 l).0;
      ends = λ v v' l. links.ends v v' ((match-kept pattern board t v v').0 l).0;
    }

module _ {pattern board : Circuit} (a : Admissible pattern board) (w r : ℕ) where
  -- The match graph of the ball's table has the board's links that match: their ends occur in the table, and so are in the ball.
  pub match-links :
      (v v' : ℕ) →
      (MatchGraph (circuit_graph pattern) (ball_graph board w r) (BallPairs pattern board w r)).Link v v' ↔
      (HasLink board.starts board.ends v v' × T (matches pattern (ball_table pattern board w r) v v'))
  unfolding MatchGraph Ball circuit_graph graph_of
  match-links v v' =
      let means = matches-iff pattern a.parallel (ball_table pattern board w r) v v' in (
        λ (l, m). (l.0, means.1 m),
        λ (l, m).
            let (u, u', p, s, s') = means.0 m in
            ((l, node u v s, node u' v' s'), (u, u', p, s, s')),
      )
    where
      node : (u v : ℕ) → BallPairs pattern board w r u v → (ball_graph board w r).Node v
      node = (ball-largest a w r).holds.node
