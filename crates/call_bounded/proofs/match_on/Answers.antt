-- `call_bounded::match_on` meets its contract: the table is short, or the circuits are matched. Assumes nothing.
use Rattle.base_lists.specs.Kit.{sym, length-take-le}
use Rattle.call_bounded.proofs.Matching.{on-short, on-matched}
use Rattle.call_bounded.proofs.match_on.Goals as goal

pub returns-then-table-n : goal.returns-then-table-n
returns-then-table-n c = on-short _ _ _ _ c.if-table-n.true

pub slice_bounds-match_bounded-end-2 : goal.slice_bounds-match_bounded-end-2
slice_bounds-match_bounded-end-2 c = sym (length-take-le _ _ c.if-table-n.false)

pub match_bounded-requires : goal.match_bounded-requires
match_bounded-requires c =
    record {
      bounded = c.requires.bounded;
      bounds = c.requires.bounds;
      bounded_2 = c.requires.bounded_2;
      table_len = length-take-le _ _ c.if-table-n.false;
    }

pub returns : goal.returns
returns c =
    on-matched _ _ _ _ c.if-table-n.false c.match_bounded.ensures
