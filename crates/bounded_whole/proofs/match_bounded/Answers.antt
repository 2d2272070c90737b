-- `bounded_whole::match_bounded` meets its contract: the all-0 rule is applied to the row's last set, from masks and neighbour tables that are
-- prepared, where every bound is 1 to that of the pattern without bounds. Assumes nothing.
use Rattle.base_lists.specs.Kit.{refl}
use Rattle.graph.specs.Circuit.{circuit}
use Rattle.base_lists.proofs.Entries.{below_wider, all-below}
use Rattle.file_format.proofs.Accepted.{bounded-starts, bounded-ends}
use Rattle.table.specs.Prepared.{tables}
use Rattle.table.proofs.Answer.{refined-fits, answered}
use Rattle.bounded_strike.specs.Prepared.{BoundPrepared}
use Rattle.bounded_whole.proofs.Settle.{bound-prepared, row_fits, row-answer, ones-answer}
use Rattle.bounded_whole.proofs.match_bounded.Goals as goal
use Rattle.bounded_whole.proofs.match_bounded.Goals.{After-neighbour_tables}

pub all_or_none-requires : goal.all_or_none-requires
all_or_none-requires c =
    record {
      parts_bound = c.requires.bounded.nodes;
      sets_fit = refined-fits _ _ _ _ c.match_circuits-counts.ensures;
    }

pub returns-then-top-lt2 : goal.returns-then-top-lt2
returns-then-top-lt2 c =
    ones-answer c.requires.bounds c.largest_bound-top.ensures c.if-top-lt2.true (answered _ _ _ _ c.match_circuits-counts.ensures c.all_or_none.ensures)

-- ---- or not
pub bound_masks-requires : goal.bound_masks-requires
bound_masks-requires c =
    record {
      in_bounds = (
        c.requires.bounds.inside,
        below_wider _ 32 _ c.requires.bounded.nodes (all-below _ _ (bounded-starts c.requires.bounded)),
        below_wider _ 32 _ c.requires.bounded.nodes (all-below _ _ (bounded-ends c.requires.bounded)),
      );
      bounds_len = (c.requires.bounds.each, c.requires.bounded.parallel, c.requires.bounded.links, refl);
    }

pub neighbour_tables-requires : goal.neighbour_tables-requires
neighbour_tables-requires c =
    record {
      net_room = record { in_offsets = refl; in_targets = refl };
      n_bound = c.requires.bounded_2.nodes;
      starts_len = (c.requires.bounded_2.parallel, c.requires.bounded_2.links);
      t = (bounded-starts c.requires.bounded_2, bounded-ends c.requires.bounded_2);
    }

-- what is prepared is of the pattern, its bounds and the board
made : (c : After-neighbour_tables) →
    BoundPrepared (circuit c.args.part_labels.now c.args.part_starts.now c.args.part_ends.now) c.args.bounds.now
    (circuit c.args.node_labels.now c.args.node_starts.now c.args.node_ends.now)
    (tables c.bound_masks.new.masks c.neighbour_tables.new.offsets c.neighbour_tables.new.targets) c.largest_bound-top.result
made c =
    bound-prepared c.requires.bounded c.requires.bounds c.largest_bound-top.ensures c.bound_masks.ensures c.neighbour_tables.ensures

pub match_prepared-counts-requires : goal.match_prepared-counts-requires
match_prepared-counts-requires c =
    record {
      some_bounded_pattern = record { part_starts = _; part_ends = _; bounds = _; node_starts = _; node_ends = _; prepared = made (goal.at.match_prepared-counts-requires c).After-neighbour_tables };
      table_len = c.requires.table_len;
    }

pub all_or_none-requires-2 : goal.all_or_none-requires-2
all_or_none-requires-2 c =
    record {
      parts_bound = c.requires.bounded.nodes;
      sets_fit = row_fits _ _ _ (c.match_prepared-counts.ensures _ _ _ _ _ (made (goal.at.all_or_none-requires-2 c).After-neighbour_tables));
    }

pub returns : goal.returns
returns c =
    row-answer _ _ _ (c.match_prepared-counts.ensures _ _ _ _ _ (made (goal.at.returns c).After-neighbour_tables)) c.all_or_none-2.ensures
