-- `table_round::write` meets its contract. The loop's invariant: what is left to write leads to the whole table, and `kept` is how many
-- pairs the table has. Assumes nothing.
use Rattle.std.specs.Iterator.Adapters.{zip_first, zip_second}
use Rattle.std.specs.Slice.Iter.{iter_rest}
use Rattle.table_round.specs.Pending.{put_at}
use Rattle.table_round.proofs.Pending.{Putting}
use Rattle.table_round.proofs.write.Given as goal

abbrev pub invariant-loop-node : goal.invariant-loop-node
invariant-loop-node l =
    Putting (iter_rest (zip_first l.node-iterator)) (iter_rest (zip_second l.node-iterator)) (put_at l.nodes l.sets l.initial.table) l.table l.kept
