-- The balls around all nodes of a circuit at once, each a set of nodes as a number.
use Rattle.std.specs.Prelude.{◌≡◌, ◌^◌}
use Rattle.base_lists.specs.Kit.{Bool, true, List, ℕ, T, eqb, ltb, length, get_or, set}
use Rattle.std.specs.Int.Bits.{bit_or}
use Rattle.base_bits.specs.Bits.{number_of, union_over}
use Rattle.base_lists.specs.List.{all, tabulate}
use Rattle.graph.specs.Search.{inside, ball, radius}

-- the balls at radius k, one for each of n nodes
unfoldable pub balls : ℕ → List ℕ → List ℕ → ℕ → List ℕ
balls n ss es k = tabulate n (λ u. number_of n (inside (ball n ss es u k)))

-- the set of all n nodes
unfoldable pub every_node : ℕ → ℕ
every_node n = number_of n (λ _. true)

-- each of the sets is the one given
unfoldable pub spanning : ℕ → List ℕ → Bool
spanning full sets = all (λ x. eqb x full) sets

-- v put into the set of u
unfoldable pub with_node : List ℕ → ℕ → ℕ → List ℕ
with_node sets u v = set sets u (bit_or (get_or sets u 0) (2 ^ v))

-- each ball with the balls around the nodes near its centre
unfoldable pub grown : List ℕ → List ℕ → List ℕ
grown near sets = tabulate (length near) (λ u. union_over sets (get_or near u 0))

-- the tables hold the balls at radius 1 and 0 of a circuit that has a node for each entry
pub record BallsBegun (ss es near sets : List ℕ) : Type 0 where
  pub in_starts : T (all (λ v. ltb v (length near)) ss)
  pub in_ends : T (all (λ v. ltb v (length near)) es)
  pub ones : near ≡ balls (length near) ss es 1
  pub zeros : sets ≡ balls (length near) ss es 0

-- r is the radius of whatever circuit the tables were made for
unfoldable pub FindsRadius : List ℕ → List ℕ → ℕ → Type 0
FindsRadius near sets r = (ss es : List ℕ) → BallsBegun ss es near sets → r ≡ radius (length near) ss es
