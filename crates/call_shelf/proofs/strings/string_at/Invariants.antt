-- `call_shelf::strings::string_at` meets its contract. The loop's invariant: the strings passed lie before the place. Assumes nothing.
use Rattle.call_shelf.proofs.Cutting.{Passed}
use Rattle.call_shelf.proofs.strings.string_at.Given as goal

abbrev pub invariant-loop-size : goal.invariant-loop-size
invariant-loop-size l = Passed l.bytes l.lengths l.size-index l.at
