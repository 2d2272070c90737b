-- `heronditch::places::heronditch_place_within` meets its contract: the call told editions, told the first twice.
-- Assumes nothing.

use Rattle.heronditch.proofs.places.heronditch_place_within.Goals as goal

pub shape_of-nodes : goal.shape_of-nodes
shape_of-nodes c = c.heronditch_place_within_editions.auto.nodes

pub shape_of-link_bytes : goal.shape_of-link_bytes
shape_of-link_bytes c = c.heronditch_place_within_editions.auto.link_bytes

pub shape_of-table : goal.shape_of-table
shape_of-table c = c.heronditch_place_within_editions.auto.table

pub shape_of-distances : goal.shape_of-distances
shape_of-distances c = c.heronditch_place_within_editions.auto.distances

pub returns : goal.returns
returns c =
    rw c.first_edition-first.ensures at c.heronditch_place_within_editions.ensures
