-- Document 01's examples of merging, by computation. Assumes nothing.
use Rattle.std.specs.Prelude.{◌≡◌, ◌∷◌}
use Rattle.base_lists.specs.Kit.{◌∙◌, ap, refl, subst, List, [], ℕ, lit≤}
use Rattle.base_lists.specs.List.{all, all_below, any_below, tabulate, maximum}
use Rattle.base_lists.specs.Below.{least_below, collect}
use Rattle.base_bits.specs.Bits.{bit}
use Rattle.graph.specs.Search.{beside, ball, misses, distances, connected, radius}
use Rattle.graph.specs.Pairs.{pair_test, pair_starts, pair_ends}
use Rattle.table.specs.Examples.{circuit_t, row_computed}
use Rattle.table.specs.Host.{everything}
use Rattle.table.specs.Row.{in_table, last_table, InTable}
use Rattle.file_format.specs.Links.{links_below, earlier, rising}
use Rattle.place.specs.Match.{radius_of}
use Rattle.place.specs.Examples.{circuit_y, circuit_one_link}
use Rattle.place.proofs.Examples.{radius-Y, radius-one_link}
use Rattle.merge.specs.Merged.{equivalent, leader, is_leader, class_in, self_table, class_of, class_count, classes, first_member, joins, linked, grouped, merged}
use Rattle.merge.specs.Examples.{circuit_e8, ten_and_any}
use Rattle.merge.proofs.Content.{PatternContent}

-- all that is opened where a merged pattern is computed
opened : Unit {0}
unfolding row_computed any_below tabulate least_below collect equivalent leader is_leader class_in self_table class_of class_count classes first_member joins linked pair_test pair_starts pair_ends grouped merged
opened = tt

-- ---- "E6 Y: 0:10, 1:20, 2:20, links 0-1, 0-2: classes 0, 1, 1; the merged radius is 1, Y's is 2."

-- Y can be a pattern
pub content-Y : PatternContent circuit_y
unfolding opened circuit_y all all_below links_below rising earlier beside ball connected radius maximum distances misses
content-Y = record { range = tt; parallel = refl; below = tt; rises = tt; joined = tt; narrow = lit≤ tt }

pub E6-table : self_table circuit_y ≡ 1 ∷ 6 ∷ 6 ∷ []
unfolding opened circuit_y
E6-table = refl

pub E6-classes : classes circuit_y ≡ 0 ∷ 1 ∷ 1 ∷ []
unfolding opened circuit_y
E6-classes = refl

pub E6-merged : merged circuit_y ≡ circuit_one_link
unfolding opened circuit_y circuit_one_link
E6-merged = refl

pub E6-radius : radius_of circuit_y ≡ 2
E6-radius = radius-Y

pub E6-merged-radius : radius_of (merged circuit_y) ≡ 1
E6-merged-radius = ap radius_of E6-merged ∙ radius-one_link

-- ---- "E8 0:10, 1:20, 2:20, 3:30, links 0-1, 0-2, 2-3: no merging."

pub E8-table : self_table circuit_e8 ≡ 1 ∷ 2 ∷ 6 ∷ 8 ∷ []
unfolding opened circuit_e8
E8-table = refl

pub E8-classes : classes circuit_e8 ≡ 0 ∷ 1 ∷ 2 ∷ 3 ∷ []
unfolding opened circuit_e8
E8-classes = refl

pub E8-merged : merged circuit_e8 ≡ circuit_e8
unfolding opened circuit_e8
E8-merged = refl

-- E8 can be a pattern
pub content-E8 : PatternContent circuit_e8
unfolding opened circuit_e8 all all_below links_below rising earlier beside ball connected radius maximum distances misses
content-E8 = record { range = tt; parallel = refl; below = tt; rises = tt; joined = tt; narrow = lit≤ tt }

-- in which node 1 matches part 1,
pub E8-member : InTable (self_table circuit_e8) 1 1
unfolding opened circuit_e8
E8-member = tt

-- and T on it, in which node 1 matches no part
pub E8-T : last_table circuit_t circuit_e8 (everything circuit_e8) ≡ 1 ∷ 0 ∷ 2 ∷ 4 ∷ []
unfolding opened circuit_t circuit_e8
E8-T = refl

pub E8-none : InTable (last_table circuit_t circuit_e8 (everything circuit_e8)) 1 1 → ⊥
unfolding in_table bit
E8-none t = subst (λ (x : List ℕ). InTable x 1 1) E8-T t

-- ---- parts of kind 0 and of kind 10 with the same links: the first matches the second, and not the other way round

pub any-self : self_table ten_and_any ≡ 1 ∷ 2 ∷ 6 ∷ []
unfolding opened ten_and_any
any-self = refl

pub any-classes : classes ten_and_any ≡ 0 ∷ 1 ∷ 2 ∷ []
unfolding opened ten_and_any
any-classes = refl
