-- `graph_search::begin` meets its contract: its stores set the tables up for the state in which only the centre is reached. Assumes nothing.
use Rattle.base_lists.specs.Kit.{length, length-set}
use Rattle.graph.proofs.BfsSteps.{started}
use Rattle.graph_search.proofs.begin.Goals as goal

pub shape_of-dist : goal.shape_of-dist
shape_of-dist c = simp length-set c.fill.auto.s

pub shape_of-queue : goal.shape_of-queue
shape_of-queue c = simp length-set

pub returns : goal.returns
returns c =
    rw c.fill.ensures (started (length c.args.dist.now) c.args.c c.args.queue.now c.requires.c_in_bounds c.requires.dist_len)
