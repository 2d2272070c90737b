-- `session_strike::mark_ends` meets its contract. The loop's invariant: marking the ends of the links that are left leads to the whole. Assumes nothing.
use Rattle.std.specs.Prelude.{◌≡◌}
use Rattle.base_lists.specs.Kit.{drop}
use Rattle.session_strike.specs.Moves.{beyond, mark_all}
use Rattle.session_strike.proofs.mark_ends.Given as goal

abbrev pub invariant-loop-number : goal.invariant-loop-number
invariant-loop-number l =
    (mark_all l.n l.marks (beyond l.ends (drop l.number-index l.numbers)) ≡ mark_all l.n l.initial.marks (beyond l.ends l.numbers))
