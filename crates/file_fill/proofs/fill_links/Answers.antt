-- `file_fill::fill_links` meets its contract: the links stand behind the packages, as many as the edition has. Assumes nothing.

use Rattle.file_fill.proofs.fill_links.Goals as goal

pub returns : goal.returns
returns c =
    record {
      starts_after = rw c.package_count.ensures.0 at c.store_two.ensures.first_after;
      ends_after = rw c.package_count.ensures.0 at c.store_two.ensures.second_after;
    }
