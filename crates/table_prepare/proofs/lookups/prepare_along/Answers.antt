-- `table_prepare::lookups::prepare_along` meets its contract: the neighbour tables and the masks, as their own contracts give them. Assumes nothing.

use Rattle.table_prepare.proofs.lookups.prepare_along.Goals as goal

pub neighbour_tables-requires : goal.neighbour_tables-requires
neighbour_tables-requires c =
    record {
      net_room = c.requires.masks_len.1;
      n_bound = c.requires.n_bound.0;
      starts_len = (c.requires.n_bound.1, c.requires.n_bound.2);
      t = c.requires.t;
    }
