-- Document 01's examples of files and its table of refusals, by computation. Assumes nothing.
use Rattle.base_lists.specs.Kit.{refl}
use Rattle.base_lists.specs.List.{all, any, all_below, tabulate, maximum}
use Rattle.graph.specs.Neighbours.{stretch}
use Rattle.graph.specs.Search.{beside, inside, ball, misses, distances, connected, radius}
use Rattle.file_format.specs.Examples.{file_t, file_b, file_one}
use Rattle.file_format.specs.Label.{label, labels}
use Rattle.file_format.specs.Layout.{field, fields, nodes_of, links_of, kinds_of, packages_of, starts_of, ends_of, labels_of}
use Rattle.file_format.specs.Links.{links_below, earlier, rising}
use Rattle.file_format.specs.Reading.{reading, read_conditions}
use Rattle.file_format.specs.Refusals.{first, link_conditions, file_conditions, asks_connected, centre_outside, short_table, number_outside, lost_package, package_lost, centre_placed}
use Rattle.file_format.specs.Reply.{reply}
use Rattle.file_pair.specs.Pair.{pair_conditions}
use Rattle.file_bounds.specs.Third.{before_bounds, bounds_of, bounds_fit, bound_outside, third_conditions}
use Rattle.table.specs.Examples.{row_computed, circuit_t, circuit_b}
use Rattle.table.specs.Fill.{listed}
use Rattle.table.specs.Reply.{counts_reply}
use Rattle.place.specs.Match.{radius_of, ball_of, ball_table, found}
use Rattle.file_write.specs.Bytes.{bytes_of, stretch_bytes}
use Rattle.test_board.specs.Board.{sizes_in_range}
use Rattle.barring.specs.Outcome.{barring}
use Rattle.call_convert.specs.Call.{every_package, convert_conditions, converting}
use Rattle.call_test_board.specs.Call.{test_board_conditions, making_test_board}
use Rattle.call_distance.specs.Calls.{ball_conditions}
use Rattle.call_bounded.specs.Call.{bounded_conditions, bounded_matching}
use Rattle.call_barring.specs.Call.{has_place, bar_inputs, bar_call}
use Rattle.heronditch_told.specs.Told.{edition_of, is_third, role_of, direction_of, as_role}
use Rattle.demands.specs.Cutting.{cut_replies}
use Rattle.demands.specs.Examples.{AllHold}
use Rattle.demands.specs.Files.{refused, ReadT, ReadB, R1, R2, R3, R4, R5, R6, R7, R8, second_t, ReadSecond, third_t, ReadThird, packed_file, looped, R3Editions, R10, row_of14, R11, R12, R13, R14, R15, by_edition, ToldEdition, ToldThird, ToldRole, ToldDirection, file_examples}

-- all that is opened where a file is read and its conditions are tried
opened : Unit {0}
unfolding first file_conditions link_conditions asks_connected links_below rising earlier nodes_of links_of kinds_of packages_of starts_of ends_of fields field connected radius maximum distances misses ball inside beside tabulate all all_below refused
opened = tt

read_t : ReadT
unfolding ReadT opened file_t circuit_t labels_of labels label stretch_bytes bytes_of
read_t = (refl, refl)

read_b : ReadB
unfolding ReadB opened file_b circuit_b labels_of labels label stretch_bytes bytes_of
read_b = (refl, refl)

r1 : R1
unfolding R1 opened
r1 = (refl, refl)

r2 : R2
unfolding R2 opened
r2 = refl

r3 : R3
unfolding R3 opened
r3 = refl

r4 : R4
unfolding R4 opened
r4 = refl

r5 : R5
unfolding R5 opened
r5 = refl

r6 : R6
unfolding R6 opened
r6 = refl

r7 : R7
unfolding R7 file_b ball_conditions centre_outside short_table opened
r7 lent = refl

r8 : R8
unfolding R8 file_t reading read_conditions reply short_table opened
r8 = refl

read_second : ReadSecond
unfolding ReadSecond opened second_t circuit_t stretch_bytes bytes_of
read_second = (refl, refl, refl, refl, refl, refl)

read_third : ReadThird
unfolding ReadThird opened second_t third_t before_bounds bounds_of third_conditions bound_outside bounds_fit
read_third = (refl, refl, refl)

r3-editions : R3Editions
unfolding R3Editions opened file_one looped third_conditions
r3-editions = (refl, refl)

r10 : R10
unfolding R10 refused making_test_board test_board_conditions sizes_in_range number_outside first reply
r10 seed = refl

r11 : R11
unfolding R11 opened row_of14
r11 = refl

r12 : R12
unfolding R12 opened packed_file converting convert_conditions package_lost lost_package every_package any reply
r12 = refl

r13 : R13
unfolding R13 opened looped bounded_matching bounded_conditions third_conditions before_bounds bounds_of bound_outside bounds_fit counts_reply
r13 = refl

r14 : R14
unfolding R14 opened file_b cut_replies listed any
r14 = refl

r15 : R15
unfolding R15 opened file_one bar_call bar_inputs has_place barring pair_conditions centre_outside short_table centre_placed reply row_computed label labels labels_of radius_of ball_of ball_table found
r15 = refl

told_edition : ToldEdition
unfolding ToldEdition by_edition opened file_t second_t edition_of
told_edition = (refl, refl)

told_third : ToldThird
unfolding ToldThird opened file_t second_t is_third third_conditions
told_third = (refl, refl, refl)

told_role : ToldRole
unfolding ToldRole opened role_of as_role
told_role = refl

told_direction : ToldDirection
unfolding ToldDirection direction_of stretch
told_direction = refl

-- They hold.
pub files-hold : AllHold file_examples
unfolding AllHold file_examples
files-hold =
    (read_t, (read_b, (r1, (r2, (r3, (r4, (r5, (r6, (r7, (r8, (read_second, (read_third, (r3-editions, (r10, (r11, (r12, (r13, (r14, (r15, (told_edition, (told_third, (told_role, (told_direction, tt)))))))))))))))))))))))
