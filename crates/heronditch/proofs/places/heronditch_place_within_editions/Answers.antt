-- `heronditch::places::heronditch_place_within_editions` meets its contract: the call of the crate below, its reply as
-- numbers. Assumes nothing.
use Rattle.base_lists.specs.Kit.{ap}
use Rattle.call_decide.specs.Decide.{radius_for}
use Rattle.heronditch.specs.Host.{host_place}
use Rattle.heronditch.proofs.places.heronditch_place_within_editions.Goals as goal

pub shape_of-nodes : goal.shape_of-nodes
shape_of-nodes c = c.place.auto.nodes

pub shape_of-link_bytes : goal.shape_of-link_bytes
shape_of-link_bytes c = c.place.auto.link_bytes

pub shape_of-table : goal.shape_of-table
shape_of-table c = c.place.auto.table

pub shape_of-distances : goal.shape_of-distances
shape_of-distances c = c.place.auto.distances

pub returns : goal.returns
unfolding host_place radius_for
returns c =
    rw (c.of_place.ensures, ← c.editions_of.ensures.0, ← c.editions_of.ensures.1) (ap host_place c.place.ensures)
