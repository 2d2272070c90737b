-- The bytes passed are digits that come to the value, and it is below 2^32.
use Rattle.loader_words.proofs.Digits.{Passed}
use Rattle.loader_words.proofs.number.Given as goal

abbrev pub invariant-loop-byte : goal.invariant-loop-byte
invariant-loop-byte l = Passed l.word l.value l.byte-index
