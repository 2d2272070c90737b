-- What the program tells of a test board. Assumes nothing.
use Rattle.std.specs.Prelude.{◌≡◌, ◌∷◌, ◌≤◌, Result, Ok, Err}
use Rattle.base_lists.specs.Kit.{◌∙◌, sym, ap, List, [], ℕ, length, take, arith}
use Rattle.file_format.specs.declared.Refusal.{Refusal}
use Rattle.file_format.specs.declared.Edition.TheVariants.{First}
use Rattle.file_format.specs.Layout.{length_of}
use Rattle.file_format.specs.Refusals.{accept, refuse}
use Rattle.file_format.specs.Reply.{Reply, number_reply}
use Rattle.test_board.specs.Board.{InRange}
use Rattle.call_test_board.specs.Call.{test_board_bytes, TestBoardOutcome, making_test_board}
use Rattle.call_test_board.proofs.Promise.{board-made, board-replied, prefix-file}
use Rattle.loader.specs.declared.PrintError.TheVariants.{OutputFailed, OutOfRange, NoNumbers}
use Rattle.loader.specs.Printing.{Printed, WriteTried, Handed}

-- the front of a buffer that is the file of a test board whose numbers are in their ranges, where it was tried to hand it on
pub tried-told : (seed n m k : ℕ) (out : List ℕ) (size handed : ℕ) (r : Printed) → InRange n m k → take size out ≡ test_board_bytes seed n m k → length (take size out) ≡ size
    → WriteTried (length (take size out)) handed r → Handed seed n m k out handed r
unfolding WriteTried Handed
tried-told seed n m k out size handed (Ok _) r e s t = (r, t ∙ ap length e, ap (λ (i : ℕ). take i out) (t ∙ s) ∙ e)
tried-told seed n m k out size handed (Err OutputFailed) r e s t = (r, t)
tried-told seed n m k out size handed (Err OutOfRange) r e s t = absurd t
tried-told seed n m k out size handed (Err NoNumbers) r e s t = absurd t

-- ---- what the call comes to

module _ (seed n m k : ℕ) (before after : List ℕ) (answer : Result ℕ Refusal)
    (e : record { reply = number_reply answer; out = after } ≡ making_test_board seed n m k before) where
  abbrev replied : number_reply answer ≡ (making_test_board seed n m k before).reply
  replied = ap (λ (o : TestBoardOutcome). o.reply) e

  -- made: the front of the buffer is the test board's file
  made-reply : (size : ℕ) → answer ≡ Ok size → (making_test_board seed n m k before).reply ≡ record { verdict = accept; values = size ∷ [] }
  unfolding number_reply
  made-reply size a = sym replied ∙ ap number_reply a

  pub made_range : (size : ℕ) → answer ≡ Ok size → InRange n m k
  made_range size a = (board-replied seed n m k before size (made-reply size a)).0

  pub made-size : (size : ℕ) → answer ≡ Ok size → size ≡ length (test_board_bytes seed n m k)
  made-size size a = (board-replied seed n m k before size (made-reply size a)).2

  pub made-prefix : (size : ℕ) → answer ≡ Ok size → take size after ≡ test_board_bytes seed n m k
  made-prefix size a = ap (λ (o : TestBoardOutcome). take size o.out) e ∙ prefix-file seed n m k before size (made-reply size a)

  -- refused, where there is room for the longest file: a number is out of its range
  pub refused-outside : length_of First 512 4096 ≤ length before → (x : Refusal) → answer ≡ Err x → InRange n m k → ⊥
  unfolding number_reply
  refused-outside room x a r =
      let fits : length_of First n m ≤ length before = omega (arith, r.nodes, r.links) in
      let made = ap (λ (o : TestBoardOutcome). o.reply.verdict) (board-made seed n m k before r fits) in
      let told : refuse x ≡ accept = ap (λ (p : Reply). p.verdict) (sym (ap number_reply a) ∙ replied) ∙ made in
      let z : ◌≡◌ {A = ℕ} 0 1 = cc in
      omega arith
