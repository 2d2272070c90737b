-- Every condition of every call is one of the fifteen. Assumes nothing.
use Rattle.std.specs.Prelude.{◌∷◌, ◌++◌}
use Rattle.base_lists.specs.Kit.{List, [], ℕ, length}
use Rattle.file_format.specs.declared.Edition.{Edition}
use Rattle.file_format.specs.declared.Role.{Role}
use Rattle.file_format.specs.declared.Role.TheVariants.{Pattern, Board, AnyPattern}
use Rattle.file_format.specs.Layout.{CircuitFile, nodes_of, links_of, starts_of, ends_of, field, length_of, package_count}
use Rattle.file_format.specs.Reading.{read_conditions}
use Rattle.file_format.specs.Refusals.{Condition, link_conditions, file_conditions, short_table}
use Rattle.file_pair.specs.Pair.{pair_conditions}
use Rattle.file_write.specs.Writing.{circuit_conditions, write_conditions}
use Rattle.file_bounds.specs.Third.{before_bounds, bounds_of, third_conditions}
use Rattle.place.specs.Match.{found}
use Rattle.test_board.specs.Board.{sizes_in_range}
use Rattle.call_convert.specs.Call.{every_package, convert_conditions}
use Rattle.call_test_board.specs.Call.{test_board_conditions}
use Rattle.call_distance.specs.Calls.{ball_conditions}
use Rattle.call_match.specs.Call.{match_conditions}
use Rattle.call_bounded.specs.Call.{bounded_conditions}
use Rattle.call_decide.specs.Decide.{room_conditions}
use Rattle.call_place.specs.Call.{input_conditions}
use Rattle.call_check.specs.Call.{check_conditions}
use Rattle.call_barring.specs.Call.{has_place, bar_inputs}
use Rattle.call_merge.specs.Call.{merge_conditions}
use Rattle.demands.specs.Demands.{Lent, placed_conditions}
use Rattle.demands.specs.Numbers as number
use Rattle.demands.specs.Numbers.{EachNumbered}

-- one list after another
joined : (cs ds : List Condition) → EachNumbered cs → EachNumbered ds → EachNumbered (cs ++ ds)
unfolding EachNumbered
joined [] ds x y = y
joined (c ∷ cs) ds x y = (x.0, joined cs ds x.1 y)

-- ---- one file, and two

pub links-numbered : (role : Role) (n : ℕ) (starts ends : List ℕ) → EachNumbered (link_conditions role n starts ends)
unfolding EachNumbered link_conditions
links-numbered role n starts ends = (number.four role n starts ends, (number.five role starts ends, (number.six role n starts ends, (number.eleven role n starts ends, tt))))

pub file-numbered : (role : Role) (file : CircuitFile) → EachNumbered (file_conditions role file)
unfolding EachNumbered file_conditions
file-numbered role file =
    (number.one role file.bytes, (number.two role (nodes_of file) (links_of file), (number.three role file, links-numbered role (nodes_of file) (starts_of file) (ends_of file))))

-- and then others
pub file-then : (role : Role) (file : CircuitFile) (others : List Condition) → EachNumbered others → EachNumbered (file_conditions role file ++ others)
file-then role file others = joined (file_conditions role file) others (file-numbered role file)

pub pair_then : (role : Role) (pattern board : CircuitFile) (others : List Condition) → EachNumbered others → EachNumbered (pair_conditions role pattern board ++ others)
unfolding pair_conditions
pair_then role pattern board others =
    joined (file_conditions role pattern ++ file_conditions Board board) others (file-then role pattern (file_conditions Board board) (file-numbered Board board))

-- ---- the calls

pub read-numbered : (role : Role) (file : CircuitFile) (k p s e : ℕ) → EachNumbered (read_conditions role file k p s e)
unfolding EachNumbered read_conditions
read-numbered role file k p s e =
    file-then role file _
    (number.eight (nodes_of file) k, (number.eight (package_count file.edition (nodes_of file)) p, (number.eight (links_of file) s, (number.eight (links_of file) e, tt))))

pub write-numbered : (role : Role) (e : Edition) (kinds packages starts ends : List ℕ) (lent : ℕ) → EachNumbered (write_conditions role e kinds packages starts ends lent)
unfolding EachNumbered write_conditions circuit_conditions
write-numbered role e kinds packages starts ends lent = (
  number.two role (length kinds) (length starts),
  (
    number.three-writing role e kinds packages starts ends,
    joined (link_conditions role (length kinds) starts ends) _ (links-numbered role (length kinds) starts ends) (number.eight (length_of e (length kinds) (length starts)) lent, tt),
  ),
)

pub convert-numbered : (role : Role) (to : Edition) (file : CircuitFile) (lent : ℕ) → EachNumbered (convert_conditions role to file lent)
unfolding EachNumbered convert_conditions
convert-numbered role to file lent =
    file-then role file _ (number.twelve role to (every_package file), (number.eight (length_of to (nodes_of file) (links_of file)) lent, tt))

pub load-numbered : (n m k lent : ℕ) → EachNumbered (test_board_conditions n m k lent)
unfolding EachNumbered test_board_conditions
load-numbered n m k lent = (number.ten (sizes_in_range n m k), (number.eight _ lent, tt))

pub ball-numbered : (file : CircuitFile) (w lent : ℕ) → EachNumbered (ball_conditions file w lent)
unfolding EachNumbered ball_conditions
ball-numbered file w lent = file-then Board file _ (number.seven (nodes_of file) w, (number.eight (nodes_of file) lent, tt))

pub match-numbered : (pattern board : CircuitFile) (lent : ℕ) → EachNumbered (match_conditions pattern board lent)
unfolding EachNumbered match_conditions
match-numbered pattern board lent = pair_then AnyPattern pattern board _ (number.eight (nodes_of board) lent, tt)

third-numbered : (bytes : List ℕ) → EachNumbered (third_conditions bytes)
unfolding EachNumbered third_conditions
third-numbered bytes = (
  number.one AnyPattern bytes,
  (
    number.two AnyPattern (field bytes 0) (field bytes 2),
    (
      number.three_third AnyPattern bytes,
      joined (link_conditions AnyPattern (field bytes 0) (starts_of (before_bounds bytes)) (ends_of (before_bounds bytes))) _
          (links-numbered AnyPattern (field bytes 0) (starts_of (before_bounds bytes)) (ends_of (before_bounds bytes))) (number.thirteen (bounds_of bytes), tt),
    ),
  ),
)

pub bounds-numbered : (pattern : List ℕ) (board : CircuitFile) (lent : ℕ) → EachNumbered (bounded_conditions pattern board lent)
unfolding EachNumbered bounded_conditions
bounds-numbered pattern board lent =
    joined (third_conditions pattern) _ (third-numbered pattern) (file-then Board board _ (number.eight (nodes_of board) lent, tt))

pub place-numbered : (pattern board : CircuitFile) (w r : ℕ) (lent : Lent) → EachNumbered (placed_conditions pattern board w r lent)
unfolding EachNumbered placed_conditions input_conditions room_conditions
place-numbered pattern board w r lent =
    joined (input_conditions pattern board w (length lent.nodes) (length lent.links) (length lent.table) (length lent.distances)) _
    (pair_then Pattern pattern board _ (number.seven _ w, (number.eight _ _, (number.eight _ _, (number.eight _ _, (number.eight _ _, tt)))))) (number.nine (found _ _ w r), tt)

pub check-numbered : (pattern board : CircuitFile) (w nodes links : ℕ) → EachNumbered (check_conditions pattern board w nodes links)
unfolding EachNumbered check_conditions
check-numbered pattern board w nodes links =
    pair_then Pattern pattern board _ (number.seven (nodes_of board) w, (number.three-bytes (nodes_of board) nodes, (number.three-bytes (links_of board) links, tt)))

pub bar-numbered : (pattern board : CircuitFile) (w lent : ℕ) → EachNumbered (bar_inputs pattern board w lent)
unfolding EachNumbered bar_inputs
bar-numbered pattern board w lent =
    pair_then Pattern pattern board _ (number.seven (nodes_of board) w, (number.eight (links_of pattern) lent, (number.fifteen (has_place pattern board w), tt)))

pub merge-numbered : (file : CircuitFile) (classes lent : ℕ) → EachNumbered (merge_conditions file classes lent)
unfolding EachNumbered merge_conditions
merge-numbered file classes lent = file-then Pattern file _ (number.eight (nodes_of file) classes, (number.eight (length file.bytes) lent, tt))

pub pair-numbered : (role : Role) (pattern board : CircuitFile) → EachNumbered (pair_conditions role pattern board)
unfolding pair_conditions
pair-numbered role pattern board = file-then role pattern (file_conditions Board board) (file-numbered Board board)

pub short-numbered : (needed lent : ℕ) → EachNumbered (short_table needed lent ∷ [])
unfolding EachNumbered
short-numbered needed lent = (number.eight needed lent, tt)
