-- Striking at one node, over neighbour tables and masks.
use Rattle.std.specs.Prelude.{◌&&◌}
use Rattle.base_lists.specs.Kit.{Bool, List, ℕ, eqb, get_or}
use Rattle.base_lists.specs.List.{all}
use Rattle.base_bits.specs.Bits.{bit, number_of, subset_of, union_at}
use Rattle.graph.specs.Net.{driven, driving}
use Rattle.table.specs.Prepared.{succ_of, pred_of, Tables}

-- those parts of a set that drive only parts of the set f, and that only parts of the set b drive
unfoldable pub survivors : List ℕ → List ℕ → ℕ → ℕ → ℕ → ℕ
survivors succ pred f b x = number_of 32 (λ u. bit x u && (subset_of (get_or succ u 0) f && subset_of (get_or pred u 0) b))

-- every mask is empty, so that nothing is asked for in their direction
unfoldable pub all_empty : List ℕ → Bool
all_empty masks = all (λ m. eqb m 0) masks

-- The next set of node v: those of its parts whose links all have partners. The parts that occur at some node that v drives are one
-- union, those at some node that drives v another.
unfoldable pub strike_node : Tables → List ℕ → ℕ → ℕ
strike_node t old v =
    survivors (succ_of t.masks) (pred_of t.masks) (union_at old (driven t.offsets t.targets v))
    (union_at old (driving t.offsets t.targets v)) (get_or old v 0)
