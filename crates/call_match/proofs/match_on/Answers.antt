-- `call_match::match_on` meets its contract: the table is short, or the circuits are matched. Assumes nothing.
use Rattle.base_lists.specs.Kit.{sym, length-take-le}
use Rattle.call_match.proofs.Matching.{on-short, on-matched}
use Rattle.call_match.proofs.match_on.Goals as goal

pub returns-then-table-n : goal.returns-then-table-n
returns-then-table-n c ways part_starts part_ends node_starts node_ends p = on-short _ _ _ _ c.if-table-n.true

pub slice_bounds-match_whole-end-2 : goal.slice_bounds-match_whole-end-2
slice_bounds-match_whole-end-2 c = sym (length-take-le _ _ c.if-table-n.false)

pub match_whole-requires : goal.match_whole-requires
match_whole-requires c =
    record {
      some_links = c.requires;
      table_len = length-take-le _ _ c.if-table-n.false;
    }

pub returns : goal.returns
returns c ways part_starts part_ends node_starts node_ends p =
    on-matched _ _ _ _ c.if-table-n.false (c.match_whole.ensures _ _ _ _ _ p)
