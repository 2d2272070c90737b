-- The call that makes a test board, whole: its reply and the later content of the bytes lent, from the inputs alone.
use Rattle.std.specs.Prelude.{◌≡◌, ◌∷◌}
use Rattle.base_lists.specs.Kit.{List, [], ℕ, length}
use Rattle.file_format.specs.declared.Edition.TheVariants.{First}
use Rattle.file_format.specs.Layout.{length_of}
use Rattle.file_format.specs.Reading.{filled}
use Rattle.file_format.specs.Refusals.{Condition, accept, first, short_table, number_outside}
use Rattle.file_format.specs.Reply.{Reply, reply}
use Rattle.file_write.specs.Bytes.{file_bytes}
use Rattle.test_board.specs.Board.{sizes_in_range, test_board}

-- the file of a test board, of the first edition
unfoldable pub test_board_bytes : ℕ → ℕ → ℕ → ℕ → List ℕ
test_board_bytes seed n m k =
    let made = test_board seed n m k in
    file_bytes First made.labels [] made.starts made.ends

-- "10, one of the four numbers out of its range, checked ahead of 8"; "An output under 4 + 2N + 4M bytes, M as given, is 8."
unfoldable pub test_board_conditions : ℕ → ℕ → ℕ → ℕ → List Condition
test_board_conditions n m k lent = number_outside (sizes_in_range n m k) ∷ short_table (length_of First n m) lent ∷ []

-- the reply (Reply `number_reply`), and the bytes lent as the call leaves them
pub record TestBoardOutcome : Type 0 where
  pub reply : Reply
  pub out : List ℕ

-- "The reply is the file's length, and bytes past it stay."
unfoldable pub making_test_board : ℕ → ℕ → ℕ → ℕ → List ℕ → TestBoardOutcome
making_test_board seed n m k out =
    let verdict = first (test_board_conditions n m k (length out)) in
    record { reply = reply verdict (length (test_board_bytes seed n m k) ∷ []); out = filled verdict (test_board_bytes seed n m k) out }

-- what making a test board leaves: the file's length, and the bytes of its file at the front of those lent
pub record MadeFrom (seed n m k : ℕ) (size : ℕ) (before after : List ℕ) : Type 0 where
  pub sized : size ≡ length (test_board_bytes seed n m k)
  pub written : after ≡ filled accept (test_board_bytes seed n m k) before
