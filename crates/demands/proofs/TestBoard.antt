-- Ask 3: what the call for a test board makes. Assumes nothing.
use Rattle.std.specs.Prelude.{◌≡◌, ◌∷◌}
use Rattle.base_lists.specs.Kit.{◌∙◌, sym, ap, List, [], ℕ, length, get_or, take}
use Rattle.graph.specs.Circuit.{Circuit}
use Rattle.file_format.specs.declared.Role.TheVariants.{Board}
use Rattle.file_format.specs.Layout.{first_edition}
use Rattle.file_format.specs.Refusals.{accept, first}
use Rattle.file_format.specs.Reply.{Reply, reply}
use Rattle.file_format.proofs.FirstEdition.{first-labels}
use Rattle.file_format.proofs.Refusals.{accepted, reply-verdict}
use Rattle.test_board.specs.Board.{kinds_drawn, test_board}
use Rattle.test_board.proofs.Board.{in-range, range-in}
use Rattle.call_test_board.specs.Call.{test_board_bytes, test_board_conditions, making_test_board}
use Rattle.call_test_board.proofs.Promise.{board-replied, board-accepted, board-circuit, board-file-nodes, board-file-link, prefix-file, rest-stays}
use Rattle.demands.specs.TestBoard.{made_file, TestBoardMade, Ask3}

module _ (seed n m k : ℕ) (out : List ℕ) (ok : (making_test_board seed n m k out).reply.verdict ≡ accept) where
  replied : (making_test_board seed n m k out).reply ≡ record { verdict = accept; values = length (test_board_bytes seed n m k) ∷ [] }
  unfolding making_test_board reply
  replied =
      let v : first (test_board_conditions n m k (length out)) ≡ accept = sym (reply-verdict _ _) ∙ ok in
      rw v

  file-is : made_file seed n m k out ≡ first_edition (test_board_bytes seed n m k)
  unfolding made_file
  file-is =
      ap (λ (r : Reply). first_edition (take (get_or r.values 0 0) (making_test_board seed n m k out).out)) replied
      ∙ ap first_edition (prefix-file seed n m k out (length (test_board_bytes seed n m k)) replied)

  made : TestBoardMade seed n m k out (made_file seed n m k out)
  unfolding test_board kinds_drawn
  made =
      let range = (board-replied seed n m k out (length (test_board_bytes seed n m k)) replied).0 in
      rw file-is (
      record {
        accepted = accepted Board (first_edition (test_board_bytes seed n m k)) (board-accepted seed n m k range);
        nodes = board-file-nodes seed n m k range;
        kinds = sym (first-labels (test_board_bytes seed n m k)) ∙ ap (λ (c : Circuit). c.labels) (board-circuit seed n m k range);
        links = board-file-link seed n m k range;
        replied = ap (λ (r : Reply). r.values) replied;
        rest = rest-stays seed n m k out (length (test_board_bytes seed n m k)) replied;
      }
      )

-- "A test load anyone can make again."
pub ask-3 : Ask3
ask-3 =
    record {
      range = λ n m k. (in-range n m k, range-in n m k);
      made = made;
      equal = λ seed n m k out out' ok ok'. file-is seed n m k out ok ∙ sym (file-is seed n m k out' ok');
    }
