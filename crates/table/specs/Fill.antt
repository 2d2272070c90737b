-- Tables of sets that are written at the nodes of a list: what the loops over a list of nodes do. Start and strike are both of this form.
use Rattle.std.specs.Prelude.{◌≡◌, ◌∷◌, ◌≤◌, ◌<◌, ◌+◌}
use Rattle.base_lists.specs.Kit.{false, cond, List, [], ℕ, zero, length, get_or, set}
use Rattle.base_lists.specs.List.{tabulate, Below}
use Rattle.base_bits.specs.Bits.{size_of}
unfoldable pub use Rattle.table_row.specs.Masks.{listed}

-- a byte per node, 1 for those of the list
unfoldable pub marks_of : ℕ → List ℕ → List ℕ
marks_of n nodes = tabulate n (λ v. cond (listed nodes v) 1 0)

-- no two entries of a list are equal
unfoldable pub Distinct : List ℕ → Type 0
Distinct xs = (i j : ℕ) → i < j → j < length xs → get_or xs i 0 ≡ get_or xs j 0 → ⊥

-- the list of all n nodes
unfoldable pub all_nodes : ℕ → List ℕ
all_nodes n = tabulate n (λ v. v)

-- a list of nodes below n, each once; no more than there are 16-bit numbers
pub record NodeList (n : ℕ) (nodes : List ℕ) : Type 0 where
  pub below : Below n nodes
  pub distinct : Distinct nodes
  pub short : length nodes ≤ 65536

-- the table is empty outside the list
unfoldable pub Cleared : List ℕ → List ℕ → Type 0
Cleared nodes xs = (v : ℕ) → v < length xs → listed nodes v ≡ false → get_or xs v 0 ≡ 0

-- the table with the set that a rule gives written at each node of the list, one after another
unfoldable pub fill_at : (ℕ → ℕ) → List ℕ → List ℕ → List ℕ
fill_at f [] xs = xs
fill_at f (v ∷ vs) xs = fill_at f vs (set xs v (f v))

-- how many parts these sets have, all in all
unfoldable pub sizes_at : (ℕ → ℕ) → List ℕ → ℕ
sizes_at f [] = zero
sizes_at f (v ∷ vs) = size_of (f v) + sizes_at f vs

-- what a loop over the list leaves: the rule's sets written at its nodes, and how many parts they have
pub record Filled (f : ℕ → ℕ) (nodes before after : List ℕ) (count : ℕ) : Type 0 where
  pub table : after ≡ fill_at f nodes before
  pub size : count ≡ sizes_at f nodes

-- the table of n sets that has the rule's at the nodes of the list, and the empty set elsewhere
unfoldable pub table_at : ℕ → (ℕ → ℕ) → List ℕ → List ℕ
table_at n f nodes = tabulate n (λ v. cond (listed nodes v) (f v) 0)
