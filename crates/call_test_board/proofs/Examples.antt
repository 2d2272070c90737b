-- Two loads from their four numbers to their bytes: one that tells start from end and every draw from another, and one in which the same pair is drawn
-- five times. Assumes nothing.
use Rattle.base_lists.specs.Kit.{◌≡◌, refl, [], ◌∷◌}
use Rattle.base_lists.specs.Below.{collect}
use Rattle.base_lists.specs.List.{any_below, tabulate}
use Rattle.graph.specs.Pairs.{pair_test, pair_starts, pair_ends}
use Rattle.file_write.specs.Bytes.{bytes_of, stretch_bytes}
use Rattle.test_board.specs.Generator.{step, draw, stepped, draws}
use Rattle.test_board.specs.Board.{kinds_drawn, pairs_drawn, is_pair, test_board}
use Rattle.call_test_board.specs.Call.{test_board_bytes}

-- seed 7, N = 3, M = 4, K = 10: kinds 8, 6, 0, links 0-1, 0-2, 1-0, 2-2
pub board-of-seven :
    test_board_bytes 7 3 4 10
    ≡ 3 ∷ 0 ∷ 4 ∷ 0 ∷ 8 ∷ 0 ∷ 6 ∷ 0 ∷ 0 ∷ 0 ∷ 0 ∷ 0 ∷ 0 ∷ 0 ∷ 1 ∷ 0 ∷ 2 ∷ 0 ∷ 1 ∷ 0 ∷ 2 ∷ 0 ∷ 0 ∷ 0 ∷ 2 ∷ 0 ∷ []
unfolding test_board_bytes stretch_bytes bytes_of test_board kinds_drawn pairs_drawn draws tabulate stepped step draw is_pair any_below pair_starts pair_ends pair_test collect
board-of-seven = refl

-- seed 3, N = 1, M = 5, K = 1: one kind, 0, and one link
pub board-of-one : test_board_bytes 3 1 5 1 ≡ 1 ∷ 0 ∷ 1 ∷ 0 ∷ 0 ∷ 0 ∷ 0 ∷ 0 ∷ 0 ∷ 0 ∷ []
unfolding test_board_bytes stretch_bytes bytes_of test_board kinds_drawn pairs_drawn draws tabulate stepped step draw is_pair any_below pair_starts pair_ends pair_test collect
board-of-one = refl
