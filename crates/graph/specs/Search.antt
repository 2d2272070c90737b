-- Distance, ball, radius and connectedness computed by rounds: what the contracts cite. proofs/ ties them to the definitions of Graph.
use Rattle.std.specs.Prelude.{◌&&◌, ◌||◌, ◌∷◌, ◌+◌}
use Rattle.base_lists.specs.Kit.{Bool, false, cond, not, List, [], ℕ, suc, zero, eqb, get_or}
use Rattle.base_lists.specs.List.{all, tabulate, maximum}

-- the entry of a node that no walk within the radius reaches
abbrev pub far : ℕ
far = 65535

-- an entry is a distance: a walk reaches its node
abbrev pub reached : ℕ → Bool
reached entry = not (eqb entry far)

-- some link joins v, directions ignored, to a node that passes the test
unfoldable pub beside : List ℕ → List ℕ → (ℕ → Bool) → ℕ → Bool
beside [] es p v = false
beside (s ∷ ss) [] p v = false
beside (s ∷ ss) (e ∷ es) p v = ((eqb s v && p e) || (eqb e v && p s)) || beside ss es p v

-- an entry of a row of bytes is 1
unfoldable pub inside : List ℕ → ℕ → Bool
inside row v = eqb (get_or row v 0) 1

-- the ball around c, a byte per node, "1 inside, else 0": at radius 0 the centre alone, and each round adds what lies beside it
unfoldable pub ball : ℕ → List ℕ → List ℕ → ℕ → ℕ → List ℕ
ball n ss es c zero = tabulate n (λ v. cond (eqb v c) 1 0)
ball n ss es c (suc r) =
    let row = ball n ss es c r in
    tabulate n (λ v. cond (inside row v || beside ss es (inside row) v) 1 0)

-- in how many of the balls at radius 0, 1, .., r - 1 a node is not: its distance, where the ball at radius r has it
unfoldable pub misses : ℕ → List ℕ → List ℕ → ℕ → ℕ → ℕ → ℕ
misses n ss es c zero v = zero
misses n ss es c (suc r) v = cond (inside (ball n ss es c r) v) 0 1 + misses n ss es c r v

-- "each node's distance from the centre, and 65,535 for a node outside the ball"
unfoldable pub distances : ℕ → List ℕ → List ℕ → ℕ → ℕ → List ℕ
distances n ss es c r = tabulate n (λ v. cond (inside (ball n ss es c r) v) (misses n ss es c r v) far)

-- the search from node 0 reaches every node
unfoldable pub connected : ℕ → List ℕ → List ℕ → Bool
connected n ss es = all (λ x. eqb x 1) (ball n ss es zero n)

-- the largest distance between two nodes
unfoldable pub radius : ℕ → List ℕ → List ℕ → ℕ
radius n ss es = maximum (tabulate n (λ c. maximum (distances n ss es c n)))
