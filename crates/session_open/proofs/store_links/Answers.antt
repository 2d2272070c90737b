-- `session_open::store_links` meets its contract. Assumes nothing.
use Rattle.base_lists.specs.Kit.{refl}
use Rattle.session_open.proofs.store_links.Goals as goal

-- src/lib.rt:109:5
pub order_links-requires : goal.order_links-requires
order_links-requires c =
    record {
      net_room = c.requires.net_room.0;
      n_bound = c.requires.n_bound;
      starts_len = c.requires.starts_len;
      t = c.requires.t;
      order_len = refl;
    }
