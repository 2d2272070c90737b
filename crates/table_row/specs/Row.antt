-- The row of sets of a problem, and the four counts. A set of pairs is a table with a number per node, the sum of 2^u over its parts u.
-- proofs/ shows that the last set is the largest closed one.
use Rattle.std.specs.Prelude.{◌&&◌, ◌∷◌, ◌-◌, ◌<◌}
use Rattle.base_lists.specs.Kit.{Bool, false, true, not, List, [], map, ℕ, suc, zero, eqb, get_or}
use Rattle.base_lists.specs.List.{all, any, tabulate, sum}
use Rattle.base_lists.specs.Below.{count_below}
use Rattle.base_bits.specs.Bits.{bit, number_of, size_of}
use Rattle.table_row.specs.Problem.{Problem}

-- ---- tables

-- the pair (part u, node v) is in the set
unfoldable pub in_table : List ℕ → ℕ → ℕ → Bool
in_table t u v = bit (get_or t v 0) u

-- the table of n nodes and k parts that holds the pairs that pass a test
unfoldable pub table_of : ℕ → ℕ → (ℕ → ℕ → Bool) → List ℕ
table_of n k test = tabulate n (λ v. number_of k (λ u. test u v))

-- the number of pairs: "kept is the number of one bits in the whole table"
unfoldable pub pairs : List ℕ → ℕ
pairs t = sum (map size_of t)

-- two tables are the same
unfoldable pub same : List ℕ → List ℕ → Bool
same [] [] = true
same [] (y ∷ ys) = false
same (x ∷ xs) [] = false
same (x ∷ xs) (y ∷ ys) = eqb x y && same xs ys

-- ---- the row

-- R0: the pairs that agree
unfoldable pub start_of : {D : Type 0} → Problem D → List ℕ
start_of p = table_of p.nodes p.parts p.agree

-- each step from u has a partner in the set among the moves from v
unfoldable pub answered : (ℕ → List ℕ) → (ℕ → List ℕ) → List ℕ → ℕ → ℕ → Bool
answered steps moves t u v = all (λ u'. any (λ v'. in_table t u' v') (moves v)) (steps u)

-- every label of a list passes a test
unfoldable pub every : {D : Type 0} → (D → Bool) → List D → Bool
every test [] = true
every test (d ∷ ds) = test d && every test ds

-- the steps of every way have partners in the set
unfoldable pub supported : {D : Type 0} → Problem D → List ℕ → ℕ → ℕ → Bool
supported p t u v = every (λ d. answered (p.steps d) (p.moves d) t u v) p.ways

-- "Each further set keeps those pairs of the last whose links have partners in the last."
unfoldable pub strike_of : {D : Type 0} → Problem D → List ℕ → List ℕ
strike_of p t = table_of p.nodes p.parts (λ u v. in_table t u v && supported p t u v)

-- the row that begins with a given table, and the row of the problem
unfoldable pub row_from : {D : Type 0} → Problem D → List ℕ → ℕ → List ℕ
row_from p t zero = t
row_from p t (suc k) = strike_of p (row_from p t k)

unfoldable pub row_of : {D : Type 0} → Problem D → ℕ → List ℕ
row_of p = row_from p (start_of p)

-- ---- the last set and the counts

-- "started, the pairs of R0; kept, the pairs left; struck, started minus kept; rounds, how many sets differ from the one before". A set
-- that differs from the one before has fewer pairs, so that the row has come to its last set after as many steps as it started with pairs.
unfoldable pub started_of : {D : Type 0} → Problem D → ℕ
started_of p = pairs (start_of p)

unfoldable pub last_of : {D : Type 0} → Problem D → List ℕ
last_of p = row_of p (started_of p)

unfoldable pub kept_of : {D : Type 0} → Problem D → ℕ
kept_of p = pairs (last_of p)

unfoldable pub struck_of : {D : Type 0} → Problem D → ℕ
struck_of p = started_of p - kept_of p

unfoldable pub rounds_of : {D : Type 0} → Problem D → ℕ
rounds_of p = count_below (started_of p) (λ k. not (same (row_of p (suc k)) (row_of p k)))

-- ---- rows that fall

-- The count falls with each of the first k steps.
abbrev pub Falls : {A : Type 0} → (A → ℕ) → (ℕ → A) → ℕ → Type 0
Falls count x k = (j : ℕ) → j < k → count (x (suc j)) < count (x j)
