-- `graph_neighbours::neighbours::neighbours` meets its contract: in each arm of the match the direction is known. Assumes nothing.

use Rattle.graph_neighbours.proofs.neighbours.neighbours.Goals as goal

pub returns-in-Forward : goal.returns-in-Forward
returns-in-Forward c = rw c.in-Forward.is c.stretch.ensures

pub returns-in-Backward : goal.returns-in-Backward
returns-in-Backward c = rw c.in-Backward.is c.stretch-in-Backward.ensures
