-- `table_round::unmark` meets its contract. The loop's invariant: the marks that are left to take away lead to the whole.
-- Assumes nothing.
use Rattle.std.specs.Prelude.{◌≡◌, ◌<◌, ◌+◌}
use Rattle.base_lists.specs.Kit.{◌∙◌, List, ℕ, add-one, length, get_or, drop, set, drop_of_length-le, drop-cons, arith}
use Rattle.base_lists.specs.List.{Below}
use Rattle.graph.specs.Search.{far}
use Rattle.table.specs.Fill.{fill_at}
use Rattle.table_round.proofs.unmark.Goals as goal
use Rattle.table_round.proofs.unmark.Goals.{In-loop-node}

-- the next node
node : (c : In-loop-node) → get_or c.args.todo.now c.loop-node.node-index 0 < length c.loop-node.marks
unfolding Below
node c = rw c.loop-node.auto.marks (c.requires c.loop-node.node-index (omega arith))

fill-next : (todo marks : List ℕ) (i : ℕ) → i < length todo →
    fill_at (λ v. far) (drop (i + 1) todo) (set marks (get_or todo i 0) far) ≡ fill_at (λ v. far) (drop i todo) marks
unfolding fill_at
fill-next todo marks i h = rw (add-one, drop-cons todo i 0)

pub bounds-marks-node : goal.bounds-marks-node
bounds-marks-node c = node (goal.at.bounds-marks-node c).In-loop-node

pub loop-node-preserved : goal.loop-node-preserved
loop-node-preserved c = fill-next c.args.todo.now c.loop-node.marks c.loop-node.node-index (omega arith) ∙ c.loop-node.invariant

pub returns : goal.returns
unfolding fill_at
returns c = rw (drop_of_length-le c.args.todo.now c.loop-node-test.false) at c.loop-node.invariant
