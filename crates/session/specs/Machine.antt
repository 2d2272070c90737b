-- The plain machine that defines a session (document 02, cutting tracks while searching): "its state is the pattern, the nodes and the set of board
-- links left." The nodes and the links of the file are those of a board, and the set has a byte for each link of the file, 1 for one that is left.
use Rattle.std.specs.Prelude.{◌&&◌, ◌∷◌}
use Rattle.base_lists.specs.Kit.{Bool, cond, List, [], ℕ, ltb, length, set}
use Rattle.base_lists.specs.List.{tabulate}
use Rattle.graph.specs.Chosen.{chosen}
use Rattle.graph.specs.Circuit.{Circuit}
use Rattle.graph.specs.Search.{inside}
use Rattle.file_format.specs.Refusals.{Verdict, first, link_gone}
use Rattle.table.specs.Answer.{answer_table}
use Rattle.table.specs.Host.{everything}

pub record Machine : Type 0 where
  pub pattern : Circuit
  pub board : Circuit
  pub left : List ℕ

-- "A fresh one has all M"
unfoldable pub fresh : Circuit → Circuit → Machine
fresh pattern board = record { pattern = pattern; board = board; left = tabulate (length board.starts) (λ i. 1) }

-- the place is that of a link which is left
unfoldable pub is_left : Machine → ℕ → Bool
is_left m linkIndex = ltb linkIndex (length m.board.starts) && inside m.left linkIndex

-- "A cut names a link by its place in the file, from 0, and takes it out of the set."
unfoldable pub take_out : Machine → ℕ → Machine
take_out m linkIndex = record { pattern = m.pattern; board = m.board; left = set m.left linkIndex 0 }

-- "Its reply is then 'cut'. A cut of a link already out, or of a place not below M, changes nothing and its reply is 14." 'Cut' is acceptance.
unfoldable pub cut_reply : Machine → ℕ → Verdict
cut_reply m linkIndex = first (link_gone (is_left m linkIndex) ∷ [])

unfoldable pub cut_machine : Machine → ℕ → Machine
cut_machine m linkIndex = cond (is_left m linkIndex) (take_out m linkIndex) m

-- ---- a list of cuts

unfoldable pub replies : Machine → List ℕ → List Verdict
replies m [] = []
replies m (linkIndex ∷ linkIndices) = cut_reply m linkIndex ∷ replies (cut_machine m linkIndex) linkIndices

unfoldable pub machine_after : Machine → List ℕ → Machine
machine_after m [] = m
machine_after m (linkIndex ∷ linkIndices) = machine_after (cut_machine m linkIndex) linkIndices

-- ---- its table

-- the nodes with the machine's links
unfoldable pub board_left : Machine → Circuit
board_left m = chosen m.board m.left

-- "the table is the largest dual simulation of the pattern in the nodes with the machine's links": as the whole-board call has it, all 0 where
-- some part is left without a node
unfoldable pub machine_table : Machine → List ℕ
machine_table m = answer_table m.pattern (board_left m) (everything (board_left m))
