-- Document 01's examples, all of them. Assumes nothing.
use Rattle.base_lists.specs.Kit.{refl, ℕ, T}
use Rattle.base_lists.specs.List.{tabulate, maximum}
use Rattle.base_lists.proofs.Tests.{T_false}
use Rattle.graph.specs.Search.{distances, misses, ball, beside, inside, radius}
use Rattle.table.specs.Examples.{circuit_t, circuit_b, two_way, ring, any_to20}
use Rattle.table.specs.Refine.{counts_by}
use Rattle.table.proofs.Counting.{struck-minus}
use Rattle.table.proofs.Examples as table
use Rattle.place.specs.Match.{radius_of, found}
use Rattle.place.specs.Outcome.{place_verdict, place_around}
use Rattle.place.specs.Examples.{circuit_one_link}
use Rattle.place.proofs.Examples as place
use Rattle.merge.proofs.Examples as merge
use Rattle.demands.specs.Examples.{PlaceIs, NoPlace, one_part, one_part_looped, E1, E2, E3, E4, E5, E6, E7, E8, E9, AnyOnB, ZeroOnBoard, AnyNotMerged, AnyAround, Probed, examples, AllHold}

e1 : E1
unfolding E1 one_part one_part_looped radius_of radius maximum distances misses ball beside inside tabulate
e1 = (place.radius-T, λ kind. refl, λ kind. refl)

e2 : E2
unfolding E2 counts_by
e2 = (table.E2-table, rw (table.E2-started, table.E2-kept, table.E2-struck, table.E2-rounds))

e3 : E3
unfolding E3 PlaceIs
e3 = (rw place.radius-T place.E3-0, rw place.radius-T place.E3-1, rw place.radius-T place.E3-2)

e4 : E4
unfolding E4 place_around place_verdict counts_by
e4 nodes links table distances = rw (place.radius-T, T_false {b = found circuit_t circuit_b 3 2} place.E4-none, struck-minus, place.E4-started, place.E4-kept, place.E4-rounds)

-- a centre of the ring that is not found has number 9
none : (w : ℕ) → (T (found two_way ring w 1) → ⊥) → NoPlace two_way ring w
unfolding NoPlace place_verdict
none w f = rw (place.radius-two_way, T_false {b = found two_way ring w 1} f)

e5 : E5
unfolding E5
e5 = (table.E5-table, none 0 place.E5-0, none 1 place.E5-1, none 2 place.E5-2, none 3 place.E5-3)

e6 : E6
unfolding E6
e6 = (merge.E6-classes, merge.E6-merged-radius, merge.E6-radius)

e7 : E7
unfolding E7
e7 = (((place.E7-Y).0, (place.E7-Y).1), (rw merge.E6-merged (place.E7-merged).0, rw merge.E6-merged (place.E7-merged).1))

e8 : E8
unfolding E8
e8 = (merge.E8-classes, merge.E8-merged)

e9 : E9
unfolding E9 PlaceIs
e9 = (rw place.radius-one_link place.E9-0, rw place.radius-one_link place.E9-1)

any_on_b : AnyOnB
unfolding AnyOnB counts_by
any_on_b = (table.any-table, rw (struck-minus, table.any-started, table.any-kept, table.any-rounds))

-- a centre of the board of kinds 0 and 20 that is not found has number 9
left : (w : ℕ) → (T (found circuit_one_link any_to20 w 1) → ⊥) → NoPlace circuit_one_link any_to20 w
unfolding NoPlace place_verdict
left w f = rw (place.radius-one_link, T_false {b = found circuit_one_link any_to20 w 1} f)

zero_on_board : ZeroOnBoard
unfolding ZeroOnBoard PlaceIs
zero_on_board = (rw place.radius-any_to20 place.zero-taken, left 0 place.zero-left-0, left 1 place.zero-left-1)

any_not_merged : AnyNotMerged
unfolding AnyNotMerged
any_not_merged = (merge.any-self, merge.any-classes)

any_around : AnyAround
unfolding AnyAround
any_around w h = rw place.radius-any_part (place.any-around w h)

probed : Probed
unfolding Probed
probed = (place.probed-place, place.probed-near, place.probed-nearer)

-- All of them hold.
pub examples-hold : AllHold examples
unfolding AllHold examples
examples-hold = (e1, (e2, (e3, (e4, (e5, (e6, (e7, (e8, (e9, (any_on_b, (zero_on_board, (any_not_merged, (any_around, (probed, tt))))))))))))))
