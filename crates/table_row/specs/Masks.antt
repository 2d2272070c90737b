-- One round of striking by masks: a part stays at a node when, for each way, the set of the parts that it steps to lies within the union
-- of the sets of the nodes that the node moves to.
use Rattle.std.specs.Prelude.{◌&&◌, ◌<◌}
use Rattle.base_lists.specs.Kit.{Bool, List, ℕ, eqb, get_or}
use Rattle.base_lists.specs.List.{any, tabulate, Below}
use Rattle.base_bits.specs.Bits.{bit, number_of, subset_of, union_at}
use Rattle.table_row.specs.Problem.{Problem}
use Rattle.table_row.specs.Row.{every}

-- v is in the list
unfoldable pub listed : List ℕ → ℕ → Bool
listed nodes v = any (λ w. eqb w v) nodes

-- for each of 32 parts the set of the parts that it steps to by a label
unfoldable pub mask_of : {D : Type 0} → Problem D → D → List ℕ
mask_of p d = tabulate 32 (λ u. number_of 32 (listed (p.steps d u)))

-- the mask of part u is within the union over the moves of node v
unfoldable pub covered : {D : Type 0} → Problem D → List ℕ → ℕ → ℕ → D → Bool
covered p t u v d = subset_of (get_or (mask_of p d) u 0) (union_at t (p.moves d v))

-- the next set of node v
unfoldable pub next_set : {D : Type 0} → Problem D → List ℕ → ℕ → ℕ
next_set p t v = number_of 32 (λ u. bit (get_or t v 0) u && every (covered p t u v) p.ways)

-- steps lead from parts to parts
pub record StepsWithin {D : Type 0} (p : Problem D) : Type 0 where
  pub below : (d : D) (u : ℕ) → u < p.parts → Below p.parts (p.steps d u)
