-- Going on from a table, by computation: on the links of a board, and on tables that hold no board's links, where a node may keep a part that it ought to lose. Assumes nothing.
use Rattle.std.specs.Prelude.{◌≡◌, ◌∷◌}
use Rattle.base_lists.specs.Kit.{refl, cond, List, [], ℕ, eqb, replicate}
use Rattle.base_lists.specs.List.{all_below, part, sum}
use Rattle.base_lists.specs.Below.{count_below, least_below}
use Rattle.base_bits.specs.Bits.{bit, number_of, subset_of, first_of, without_first, size_of, union_at}
use Rattle.simulation.specs.Simulation.{Direction, forwards, backwards}
use Rattle.table.specs.Row.{pairs}
use Rattle.table_strike.specs.Strike.{survivors}
use Rattle.session_strike.specs.Moves.{next_set_at, mark, mark_one, mark_all, mark_beside, mark_both, node_at, unmark, look_sets, look_marks, look_on, settled, settled_from}

-- `unfolding settled_computed` opens what is computed
unfoldable pub settled_computed : Unit {0}
unfolding all_below part sum count_below least_below bit number_of subset_of first_of without_first size_of union_at pairs survivors next_set_at mark mark_one mark_all mark_beside mark_both node_at unmark look_sets look_marks look_on settled settled_from
settled_computed = tt

-- the masks of one part that drives itself, and asks for nothing that drives it
abbrev pub masks : List ℕ
masks = 1 ∷ replicate 63 0

-- one link, from node 0 to node 1: both its ends have it,
unfoldable pub both : Direction → ℕ → List ℕ
both forwards v = cond (eqb v 0) (1 ∷ []) []
both backwards v = cond (eqb v 1) (0 ∷ []) []

-- or its start alone
unfoldable pub half : Direction → ℕ → List ℕ
half forwards v = cond (eqb v 0) (1 ∷ []) []
half backwards v = []

-- Node 0 is looked at first, and keeps its part. Node 1 loses it, and marks node 0, which then loses it too;
pub both-lose : settled_from masks both (1 ∷ 1 ∷ []) 0 1 ≡ 0 ∷ 0 ∷ []
unfolding settled_computed both
both-lose = refl

-- but where node 1 does not have the link, node 0 is not looked at again. With node 1 first, it would have lost the part.
pub first-keeps : settled_from masks half (1 ∷ 1 ∷ []) 0 1 ≡ 1 ∷ 0 ∷ []
unfolding settled_computed half
first-keeps = refl
