-- The nodes that the search reaches are the ball; and tables that are cut from longer ones. Assumes nothing.
use Rattle.std.specs.Prelude.{◌≡◌, ◌++◌, ◌≤◌, ◌<◌}
use Rattle.base_lists.specs.Kit.{◌∙◌, sym, ap, ap₂, Bool, List, ℕ, length, take, length-append, length-take-le, take_at, arith}
use Rattle.base_lists.specs.List.{all_below}
use Rattle.graph.specs.Bfs.{bfs, adjacent, Found}
use Rattle.graph.specs.Net.{NetOf}
use Rattle.graph.specs.Search.{ball, distances, inside}
use Rattle.graph.proofs.Ball.{Within}
use Rattle.graph.proofs.Distance.{length-distances, ball-distances}
use Rattle.graph.proofs.Measures.{net-distances}
use Rattle.graph.proofs.Net.{net-of, net-few}
use Rattle.place.specs.Bytes.{bytes_of_nodes, bytes_of_links}
use Rattle.proposal.specs.Check.{in_row}

pub near-row :
    {n : ℕ} {ss es offsets targets : List ℕ} → NetOf n ss es offsets targets → Within n ss es → (w : ℕ) → w < n → (r : ℕ) {m k : ℕ} {dist queue : List ℕ} →
    m ≡ n → Found k dist queue (bfs (adjacent offsets targets) m w r) → bytes_of_nodes dist ≡ ball n ss es w r
unfolding bytes_of_nodes
near-row {n} {ss} {es} {offsets} {targets} t within w h r e f =
    ap bytes_of_nodes (f.distances ∙ ap (λ (m : ℕ). (bfs (adjacent offsets targets) m w r).dist) e ∙ net-distances t within w h r)
    ∙ rw (length-distances n ss es w r) (sym (ball-distances within w r (let few = net-few (net-of t) in omega arith)))

-- ---- n entries, cut from more

module _ {n : ℕ} (xs after : List ℕ) (e : length xs ≡ n) where
  pub cut-room : n ≤ length (xs ++ after)
  cut-room = omega (arith, length-append xs after)

  pub cut-long : length (take n (xs ++ after)) ≡ n
  cut-long = length-take-le n (xs ++ after) cut-room

  -- a test of the entries that were cut is one of the entries
  pub cut-row : (nodes : List ℕ) {r : Bool} → r ≡ in_row (bytes_of_nodes (take n (xs ++ after))) nodes → in_row (bytes_of_nodes xs) nodes ≡ r
  cut-row nodes q = sym (q ∙ ap (λ (l : List ℕ). in_row (bytes_of_nodes l) nodes) (take_at xs after n e))

  pub cut-links :
      (ys rest : List ℕ) → length ys ≡ n → (starts ends succ : List ℕ) {r : Bool} →
      r ≡ all_below (length starts) (inside (bytes_of_links starts ends succ (take n (xs ++ after)) (take n (ys ++ rest)))) →
      r ≡ all_below (length starts) (inside (bytes_of_links starts ends succ xs ys))
  cut-links ys rest e' starts ends succ q =
      q
      ∙ ap₂ (λ (ds ss : List ℕ). all_below (length starts) (inside (bytes_of_links starts ends succ ds ss))) (take_at xs after n e) (take_at ys rest n e')
