-- The test board (document 02, Ask 3): "The load is fixed by four 32-bit numbers: seed, N, M and K, with N from 1 to 512, M at most 4,096 and K
-- from 1 to 65,536."
use Rattle.std.specs.Prelude.{◌≡◌, ◌&&◌, ◌≤◌, ◌<◌, ◌+◌, ◌*◌}
use Rattle.base_lists.specs.Kit.{Bool, List, ℕ, eqb, leb, get_or}
use Rattle.base_lists.specs.List.{any_below}
use Rattle.graph.specs.Circuit.{Circuit}
use Rattle.graph.specs.Pairs.{pair_starts, pair_ends}
use Rattle.test_board.specs.Generator.{draw, stepped, draws}

-- the numbers are in their ranges; the seed always is
unfoldable pub sizes_in_range : ℕ → ℕ → ℕ → Bool
sizes_in_range n m k = leb 1 n && (leb n 512 && (leb m 4096 && (leb 1 k && leb k 65536)))

pub record InRange (n m k : ℕ) : Type 0 where
  pub some_nodes : 1 ≤ n
  pub nodes : n ≤ 512
  pub links : m ≤ 4096
  pub some_kinds : 1 ≤ k
  pub kinds : k ≤ 65536

-- "Draw N kinds below K, .."
unfoldable pub kinds_drawn : ℕ → ℕ → ℕ → List ℕ
kinds_drawn seed n k = draws seed k n

-- ".. then M times a start and an end below N": 2 M draws, which go on from the N steps of the kinds
unfoldable pub pairs_drawn : ℕ → ℕ → ℕ → List ℕ
pairs_drawn seed n m = draws (stepped seed n) n (2 * m)

-- the pair (a, b) is one of the first m pairs of a list of starts and ends in turn
unfoldable pub is_pair : List ℕ → ℕ → ℕ → ℕ → Bool
is_pair list m a b = any_below m (λ j. eqb (get_or list (2 * j) 0) a && eqb (get_or list (2 * j + 1) 0) b)

-- "The file's links are the pairs drawn, each once, in the file's order."
unfoldable pub test_board : ℕ → ℕ → ℕ → ℕ → Circuit
test_board seed n m k =
    let drawn = is_pair (pairs_drawn seed n m) m in
    record { labels = kinds_drawn seed n k; starts = pair_starts n drawn; ends = pair_ends n drawn }

-- the pair (a, b) was drawn: some start, the draw number n + 2 j + 1 in all, was a, and the end after it b
unfoldable pub PairDrawn : ℕ → ℕ → ℕ → ℕ → ℕ → Type 0
PairDrawn seed n m a b =
    (j : ℕ) × (j < m) × (draw n (stepped seed (n + 2 * j + 1)) ≡ a)
    × (draw n (stepped seed (n + 2 * j + 2)) ≡ b)
