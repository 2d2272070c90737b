-- What the program hands over and tells of a test board.
use Rattle.std.specs.Prelude.{◌≡◌, Option, Some, None, Result, Ok, Err}
use Rattle.base_lists.specs.Kit.{List, ℕ, length, take}
use Rattle.test_board.specs.Board.{InRange}
use Rattle.call_test_board.specs.Call.{test_board_bytes}
use Rattle.loader_words.specs.declared.Asked.{Asked}
use Rattle.loader.specs.declared.PrintError.{PrintError}
use Rattle.loader.specs.declared.PrintError.TheVariants.{OutputFailed, OutOfRange, NoNumbers}

-- what may come of the words
abbrev pub Printed : Type 0
Printed = Result (Unit {0}) PrintError

-- so many bytes of a file of this length were handed over: all, or none where the writing failed
unfoldable pub WriteTried : ℕ → ℕ → Printed → Type 0
WriteTried size handed (Ok _) = handed ≡ size
WriteTried size handed (Err OutputFailed) = handed ≡ 0
WriteTried size handed (Err OutOfRange) = ⊥
WriteTried size handed (Err NoNumbers) = ⊥

-- What is told of four numbers: that one is out of its range exactly where one is, and nothing is handed over then; else the bytes at the front of the
-- buffer were handed over, and they are the test board's file.
unfoldable pub Handed : ℕ → ℕ → ℕ → ℕ → List ℕ → ℕ → Printed → Type 0
Handed seed n m k out handed (Ok _) = InRange n m k × (handed ≡ length (test_board_bytes seed n m k)) × (take handed out ≡ test_board_bytes seed n m k)
Handed seed n m k out handed (Err OutputFailed) = InRange n m k × (handed ≡ 0)
Handed seed n m k out handed (Err OutOfRange) = (InRange n m k → ⊥) × (handed ≡ 0)
Handed seed n m k out handed (Err NoNumbers) = ⊥

-- something of a number, or else something of a word that is none
unfoldable pub Given : Option ℕ → (ℕ → Type 0) → Type 0 → Type 0
Given (Some x) number none = number x
Given None number none = none

-- what may come of four words: where one is no number, that is told, and nothing is handed over
unfoldable pub TestBoardRan : Asked → List ℕ → ℕ → Printed → Type 0
TestBoardRan words out handed printed =
    let none = (printed ≡ Err NoNumbers) × (handed ≡ 0) in
    Given words.seed
    (λ seed. Given words.n (λ n. Given words.m (λ m. Given words.k (λ k. Handed seed n m k out handed printed) none) none) none)
    none
