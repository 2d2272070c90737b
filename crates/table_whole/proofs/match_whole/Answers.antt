-- `table_whole::match_whole` meets its contract: the all-0 rule is applied to the row's last set. Assumes nothing.
use Rattle.table.proofs.Answer.{refined-fits, answered}
use Rattle.table_whole.proofs.match_whole.Goals as goal

pub all_or_none-requires : goal.all_or_none-requires
all_or_none-requires c =
    let some = c.requires.some_links.prepared in
    record { parts_bound = some.parts; sets_fit = refined-fits _ _ _ _ (c.match_tables-counts.ensures _ _ _ _ _ some) }

pub returns : goal.returns
returns c ways part_starts part_ends node_starts node_ends p =
    answered _ _ _ _ (c.match_tables-counts.ensures _ _ _ _ _ p) c.all_or_none.ensures
