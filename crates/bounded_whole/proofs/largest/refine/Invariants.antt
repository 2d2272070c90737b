-- `bounded_whole::largest::refine` meets its contract, as table_largest::refine does. The loop's invariant: `table` is the table after `rounds`
-- rounds, each of which struck a pair, and has `kept` pairs. The measure is `kept`, which falls with each round. Assumes nothing.
use Rattle.table.specs.Prepared.{tables}
use Rattle.bounded_strike.specs.Round.{Turn}
use Rattle.bounded_whole.proofs.largest.refine.Given as goal

abbrev pub invariant-loop-kept : goal.invariant-loop-kept
invariant-loop-kept l = Turn (tables l.masks l.offsets l.targets) l.top l.initial.table l.table l.kept l.rounds

abbrev pub decreases-loop-kept : goal.decreases-loop-kept
decreases-loop-kept l = l.kept
