-- One pass over the nodes, and one layer after another: what the contracts of this crate cite.
use Rattle.std.specs.Prelude.{◌&&◌}
use Rattle.base_lists.specs.Kit.{List, ℕ, length, get_or}
use Rattle.std.specs.Int.Bits.{bit_or}
use Rattle.base_lists.specs.List.{tabulate}
use Rattle.base_bits.specs.Bits.{bit, number_of, subset_of, union_at}

-- ---- one pass

-- the parts of a set whose mask lies within f
unfoldable pub kept_within : List ℕ → ℕ → ℕ → ℕ
kept_within masks f x = number_of 32 (λ u. bit x u && subset_of (get_or masks u 0) f)

-- each set of a table, with f the union of a layer's sets over the node's neighbours
unfoldable pub pass_table : (ℕ → List ℕ) → List ℕ → List ℕ → List ℕ → List ℕ
pass_table near masks layer new = tabulate (length new) (λ v. kept_within masks (union_at layer (near v)) (get_or new v 0))

-- ---- layers

-- what each node has, and what its neighbours have in a layer
unfoldable pub next_layer : (ℕ → List ℕ) → List ℕ → List ℕ → List ℕ
next_layer near old layer = tabulate (length old) (λ v. bit_or (get_or old v 0) (union_at layer (near v)))
