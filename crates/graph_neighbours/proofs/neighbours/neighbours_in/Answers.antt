-- `graph_neighbours::neighbours::neighbours_in` meets its contract: in each arm of the match the direction is known, and the halves of the two
-- lists have a stretch for each node. Assumes nothing.
use Rattle.base_lists.specs.List.{part}
use Rattle.graph.specs.Net.{driven, driving}
use Rattle.graph.proofs.Net.{stretch-sound}
use Rattle.graph_neighbours.specs.Lookup.{neighbours_in}
use Rattle.graph_neighbours.proofs.neighbours.neighbours_in.Goals as goal

pub sound_stretch-requires : goal.sound_stretch-requires
unfolding part
sound_stretch-requires c = stretch-sound c.requires.net.forward _ c.requires.node

pub sound_stretch-requires-in-Backward : goal.sound_stretch-requires-in-Backward
unfolding part
sound_stretch-requires-in-Backward c = stretch-sound c.requires.net.backward _ c.requires.node

pub returns-in-Forward : goal.returns-in-Forward
unfolding neighbours_in driven part
returns-in-Forward c = rw c.in-Forward.is c.sound_stretch.ensures

pub returns-in-Backward : goal.returns-in-Backward
unfolding neighbours_in driving part
returns-in-Backward c = rw c.in-Backward.is c.sound_stretch-in-Backward.ensures
