-- `session_strike::reach` meets its contract. The loop's invariant: the union so far, with the sets at the ends of the links that are left, is the whole
-- union. Assumes nothing.
use Rattle.std.specs.Prelude.{◌≡◌}
use Rattle.base_lists.specs.Kit.{drop}
use lib.Bits.{bit_or}
use Rattle.base_bits.specs.Bits.{union_at}
use Rattle.session_strike.specs.Moves.{beyond}
use Rattle.session_strike.proofs.reach.Given as goal

abbrev pub invariant-loop-number : goal.invariant-loop-number
invariant-loop-number l =
    (bit_or l.union (union_at l.sets (beyond l.ends (drop l.number-index l.numbers))) ≡ union_at l.sets (beyond l.ends l.numbers))
