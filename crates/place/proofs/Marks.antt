-- The place's bytes and its table, entry by entry. Assumes nothing.
use Rattle.std.specs.Prelude.{◌≡◌, ◌↔◌, ◌&&◌, ◌≤◌, ◌<◌}
use Rattle.base_lists.specs.Kit.{◌∙◌, sym, ap, subst, ⊎_elim, Bool, List, ℕ, T, length, get_or, get_or-eq_default, arith}
use native.Mathlib.Decide.{dec_lt}
use Rattle.base_lists.proofs.Tests.{both_true, both_left, both_right, T_true, T_false, false-T, decide}
use Rattle.base_lists.proofs.Tables.{length-tabulate, get_d_tabulate}
use Rattle.base_bits.specs.Bits.{bit}
use Rattle.base_bits.proofs.Digits.{bit-of-zero}
use Rattle.graph.specs.Circuit.{Circuit}
use Rattle.graph.specs.Search.{inside}
use Rattle.graph.proofs.Ball.{length-ball, ball-bits, inside-bits, bits-le, inside-below}
use Rattle.graph.proofs.Distance.{length-distances}
use Rattle.table.specs.Row.{in_table, InTable}
use Rattle.place.specs.Match.{distances_of, ball_table, link_matches, component, place_nodes, place_links, place_table}
use Rattle.place.proofs.Ball.{BallPairs}

-- A row of n bytes, each 0 or 1.
pub record Marks (n : ℕ) (row : List ℕ) : Type 0 where
  pub size : length row ≡ n
  pub bytes : (i : ℕ) → i < n → get_or row i 0 ≤ 1

-- an entry per board node
pub length-ball_distances : (board : Circuit) (w r : ℕ) → length (distances_of board w r) ≡ length board.labels
unfolding distances_of
length-ball_distances board w r = length-distances _ _ _ w r

module _ (pattern board : Circuit) (w r : ℕ) where
  -- "a byte per board node and one per board link"
  pub nodes-marks : Marks (length board.labels) (place_nodes pattern board w r)
  unfolding place_nodes component
  nodes-marks = record { size = length-ball _ _ _ w _; bytes = ball-bits _ _ _ w _ }

  -- the test from which the byte of a link is made: it matches, and starts in the component
  abbrev matching : ℕ → Bool
  matching i = link_matches pattern board (ball_table pattern board w r) i

  abbrev starting : ℕ → Bool
  starting i = inside (place_nodes pattern board w r) (get_or board.starts i 0)

  pub links-marks : Marks (length board.starts) (place_links pattern board w r)
  unfolding place_links
  links-marks = record { size = length-tabulate _ _; bytes = bits-le (length board.starts) (λ i. matching i && starting i) }

  pub link-marked : (i : ℕ) → T (inside (place_links pattern board w r) i) ↔ ((i < length board.starts) × T (matching i) × T (starting i))
  unfolding place_links
  link-marked i =
      let same = inside-bits (length board.starts) (λ i. matching i && starting i) i in (
        λ t. let (h, b) = same.0 t in (h, both_left (matching i) (starting i) b, both_right (matching i) (starting i) b),
        λ (h, m, n). same.1 (h, both_true (matching i) (starting i) m n),
      )

  -- a node that is marked is a node of the board
  marked-node : (v : ℕ) → T (inside (place_nodes pattern board w r) v) → v < length board.labels
  marked-node v t = subst (λ n. v < n) nodes-marks.size (inside-below _ v t)

  pub length-table : length (place_table pattern board w r) ≡ length board.labels
  unfolding place_table
  length-table = length-tabulate _ _

  -- the table has the ball's entry at each node of the place,
  pub table-inside : (v : ℕ) → T (inside (place_nodes pattern board w r) v) → get_or (place_table pattern board w r) v 0 ≡ get_or (ball_table pattern board w r) v 0
  unfolding place_table
  table-inside v t = get_d_tabulate _ _ v 0 (marked-node v t) ∙ rw (T_true {b = inside (place_nodes pattern board w r) v} t)

  -- and "0 elsewhere"
  pub table-outside : (v : ℕ) → (T (inside (place_nodes pattern board w r) v) → ⊥) → get_or (place_table pattern board w r) v 0 ≡ 0
  unfolding place_table
  table-outside v f = go (dec_lt v (length board.labels))
    where
      go : Dec (v < length board.labels) → get_or (place_table pattern board w r) v 0 ≡ 0
      go (yes h) = get_d_tabulate _ _ v 0 h ∙ rw (T_false {b = inside (place_nodes pattern board w r) v} f)
      go (no h) = get_or-eq_default (place_table pattern board w r) 0 (omega (arith, length-table))

  -- so it holds the ball's pairs whose node is in the place
  pub table-in :
      (u v : ℕ) → InTable (place_table pattern board w r) u v ↔ (BallPairs pattern board w r u v × T (inside (place_nodes pattern board w r) v))
  unfolding in_table
  table-in u v = (
    λ m.
        ⊎_elim
        (λ t. (subst (λ x. T (bit x u)) (table-inside v t) m, t))
        (λ f. absurd (false-T (ap (λ x. bit x u) (table-outside v f) ∙ bit-of-zero u) m))
        (decide (inside (place_nodes pattern board w r) v)),
    λ (s, t). subst (λ x. T (bit x u)) (sym (table-inside v t)) s,
  )
