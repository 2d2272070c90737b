-- Small patterns with bounds, by computation. Assumes nothing.
use Rattle.std.specs.Prelude.{◌≡◌, ◌∷◌}
use Rattle.base_lists.specs.Kit.{refl, []}
use Rattle.base_lists.specs.Below.{keep_from}
use Rattle.graph.specs.Circuit.{circuit}
use Rattle.table.specs.Examples.{row_computed, answer_computed}
use Rattle.bounded.specs.Problem.{bounded_problem, bounded_table, bounded_counts, of_bound, within, gather, every_label}

-- a link from a part of kind 10 to one of kind 20, on 10 - 99 - 20: with bound 2 the path through the middle node meets it,
pub through-one : bounded_table (circuit (10 ∷ 20 ∷ []) (0 ∷ []) (1 ∷ [])) (2 ∷ []) (circuit (10 ∷ 99 ∷ 20 ∷ []) (0 ∷ 1 ∷ []) (1 ∷ 2 ∷ [])) ≡ 1 ∷ 0 ∷ 2 ∷ []
unfolding row_computed answer_computed bounded_problem of_bound keep_from within gather every_label
through-one = refl

-- with bound 1 nothing does
pub one_link : bounded_table (circuit (10 ∷ 20 ∷ []) (0 ∷ []) (1 ∷ [])) (1 ∷ []) (circuit (10 ∷ 99 ∷ 20 ∷ []) (0 ∷ 1 ∷ []) (1 ∷ 2 ∷ [])) ≡ 0 ∷ 0 ∷ 0 ∷ []
unfolding row_computed answer_computed bounded_problem of_bound keep_from within gather every_label
one_link = refl

pub one-link-counts :
    bounded_counts (circuit (10 ∷ 20 ∷ []) (0 ∷ []) (1 ∷ [])) (1 ∷ []) (circuit (10 ∷ 99 ∷ 20 ∷ []) (0 ∷ 1 ∷ []) (1 ∷ 2 ∷ [])) ≡ record { started = 2; kept = 0; struck = 2; rounds = 1 }
unfolding row_computed answer_computed bounded_problem bounded_counts of_bound keep_from within gather every_label
one-link-counts = refl

-- a path may not go against its links
pub other_way : bounded_table (circuit (10 ∷ 20 ∷ []) (0 ∷ []) (1 ∷ [])) (4 ∷ []) (circuit (10 ∷ 99 ∷ 20 ∷ []) (1 ∷ 2 ∷ []) (0 ∷ 1 ∷ [])) ≡ 0 ∷ 0 ∷ 0 ∷ []
unfolding row_computed answer_computed bounded_problem of_bound keep_from within gather every_label
other_way = refl

-- a link from a part to itself, met by a path that ends where it began; and where there is no link, by none
pub comes_back : bounded_table (circuit (10 ∷ []) (0 ∷ []) (0 ∷ [])) (2 ∷ []) (circuit (10 ∷ 99 ∷ []) (0 ∷ 1 ∷ []) (1 ∷ 0 ∷ [])) ≡ 1 ∷ 0 ∷ []
unfolding row_computed answer_computed bounded_problem of_bound keep_from within gather every_label
comes_back = refl

pub no-path : bounded_table (circuit (10 ∷ []) (0 ∷ []) (0 ∷ [])) (4 ∷ []) (circuit (10 ∷ []) [] []) ≡ 0 ∷ []
unfolding row_computed answer_computed bounded_problem of_bound keep_from within gather every_label
no-path = refl
