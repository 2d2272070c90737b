-- The answer where every part has to occur: "If some part is left without a node, the table is all 0, kept is 0, struck equals started,
-- and rounds count as before." So `started_of` and `rounds_of` stand as they are.
use Rattle.std.specs.Prelude.{◌-◌}
use Rattle.base_lists.specs.Kit.{Bool, cond, List, ℕ}
use Rattle.base_lists.specs.List.{all_below, any_below, tabulate}
use Rattle.table_row.specs.Problem.{Problem}
use Rattle.table_row.specs.Row.{in_table, pairs, started_of, last_of}

-- each of so many parts has one of so many nodes in the table
unfoldable pub all_occur : ℕ → ℕ → List ℕ → Bool
all_occur nodes parts t = all_below parts (λ u. any_below nodes (λ v. in_table t u v))

-- the table, or all 0
unfoldable pub all_or_none : ℕ → ℕ → List ℕ → List ℕ
all_or_none nodes parts t = cond (all_occur nodes parts t) t (tabulate nodes (λ v. 0))

unfoldable pub answer_of : {D : Type 0} → Problem D → List ℕ
answer_of p = all_or_none p.nodes p.parts (last_of p)

unfoldable pub answer_kept : {D : Type 0} → Problem D → ℕ
answer_kept p = pairs (answer_of p)

unfoldable pub answer_struck : {D : Type 0} → Problem D → ℕ
answer_struck p = started_of p - answer_kept p
