-- `table_round::changes` meets its contract. The loop's invariant: what is listed, with what is left of the list, leads to the whole.
-- Assumes nothing.
use Rattle.table.specs.Prepared.{tables}
use Rattle.table_strike.specs.Strike.{strike_node}
use Rattle.table_round.proofs.Pending.{Listing}
use Rattle.table_round.proofs.changes.Given as goal

abbrev pub invariant-loop-node : goal.invariant-loop-node
invariant-loop-node l = Listing (strike_node (tables l.masks l.offsets l.targets) l.old) l.old l.todo l.changed l.next l.k l.node-index
