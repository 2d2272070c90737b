-- Ask 3, "A test load anyone can make again", quoted over what is proved of it: `Ask3`. proofs/TestBoard proves it.
-- "Turned away: 10, one of the four numbers out of its range, checked ahead of 8", and "An output under 4 + 2N + 4M
-- bytes, M as given, is 8.": specs/Demands `loads`.
use Rattle.std.specs.Prelude.{◌≡◌, ◌↔◌, ◌∷◌}
use Rattle.base_lists.specs.Kit.{List, [], ℕ, T, length, get_or, take, drop}
use Rattle.graph.specs.Circuit.{HasLink}
use Rattle.file_format.specs.declared.Role.TheVariants.{Board}
use Rattle.file_format.specs.Layout.{CircuitFile, first_edition, nodes_of, kinds_of, starts_of, ends_of}
use Rattle.file_format.specs.Refusals.{accept, Accepted}
use Rattle.test_board.specs.Generator.{draws}
use Rattle.test_board.specs.Board.{sizes_in_range, InRange, PairDrawn}
use Rattle.call_test_board.specs.Call.{making_test_board}

-- the file made: the front of the bytes lent, of the length replied
unfoldable pub made_file : ℕ → ℕ → ℕ → ℕ → List ℕ → CircuitFile
made_file seed n m k out = first_edition (take (get_or (making_test_board seed n m k out).reply.values 0 0) (making_test_board seed n m k out).out)

-- What a call that accepts has made.
pub record TestBoardMade (seed n m k : ℕ) (out : List ℕ) (file : CircuitFile) : Type 0 where
  -- "The file made is always an accepted board"
  pub accepted : Accepted Board file
  pub nodes : nodes_of file ≡ n
  -- "Draw N kinds below K,
  pub kinds : kinds_of file ≡ draws seed k n
  -- then M times a start and an end below N. The file's links are the pairs drawn, each once, in the file's order." (an
  -- accepted file's links rise strictly)
  pub links : (a b : ℕ) → HasLink (starts_of file) (ends_of file) a b ↔ PairDrawn seed n m a b
  -- "The reply is the file's length, and bytes past it stay."
  pub replied : (making_test_board seed n m k out).reply.values ≡ length file.bytes ∷ []
  pub rest : drop (length file.bytes) (making_test_board seed n m k out).out ≡ drop (length file.bytes) out

pub record Ask3 : Type 0 where
  -- "with N from 1 to 512, M at most 4,096 and K from 1 to 65,536"
  pub range : (n m k : ℕ) → T (sizes_in_range n m k) ↔ InRange n m k
  pub made : (seed n m k : ℕ) (out : List ℕ) → (making_test_board seed n m k out).reply.verdict ≡ accept → TestBoardMade seed n m k out (made_file seed n m k out)
  -- "and equal numbers make equal files", whatever is lent
  pub equal : (seed n m k : ℕ) (out out' : List ℕ) → (making_test_board seed n m k out).reply.verdict ≡ accept → (making_test_board seed n m k out').reply.verdict ≡ accept →
      made_file seed n m k out ≡ made_file seed n m k out'
