-- `graph_radius::join` meets its contract. Assumes nothing.
use Rattle.graph_radius.specs.Balls.{with_node}
use Rattle.graph_radius.proofs.join.Goals as goal

pub returns : goal.returns
unfolding with_node
returns c = rw c.single.ensures
