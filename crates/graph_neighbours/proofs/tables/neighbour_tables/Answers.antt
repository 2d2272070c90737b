-- `graph_neighbours::tables::neighbour_tables` meets its contract: the ends are grouped by their starts, and the starts by their ends.
-- Assumes nothing.
use Rattle.base_lists.specs.Kit.{sym, arith}
use Rattle.graph_neighbours.proofs.Grouped.{net-grouped}
use Rattle.graph_neighbours.proofs.tables.neighbour_tables.Goals as goal

pub group_both-requires : goal.group_both-requires
group_both-requires c =
    record {
      net_room = c.requires.net_room;
      n_bound = c.requires.n_bound;
      starts_len_bound = (c.requires.starts_len.1, omega (arith, c.requires.starts_len));
      starts_len = (c.requires.starts_len.0, sym c.requires.starts_len.0);
      t = c.requires.t;
    }

pub returns : goal.returns
returns c =
    net-grouped c.group_both.ensures c.requires.starts_len.0 c.requires.t.0 c.requires.t.1
