-- `table_whole::match_circuits` meets its contract: the masks of the directions that count and the neighbour tables are prepared, and the
-- pairs are struck from there. Assumes nothing.
use mathlib.Core.Path.{refl}
use native.Mathlib.Omega.{arith}
use borrow.Author.Rules.{rules}
use Rattle.graph.specs.Circuit.{circuit}
use Rattle.file_format.proofs.Accepted.{bounded-starts, bounded-ends}
use Rattle.table.specs.Prepared.{tables, PreparedBy}
use Rattle.table.specs.Row.{ways_of}
use Rattle.table.proofs.Prepare.{prepared}
use Rattle.base_lists.proofs.Entries.{all-below, below_wider}
use Rattle.table_whole.proofs.match_circuits.Goals as goal
use Rattle.table_whole.proofs.match_circuits.Goals.{After-prepare_along}

pub prepare_along-requires : goal.prepare_along-requires
prepare_along-requires c =
    let starts = below_wider _ 32 _ c.requires.bounded.nodes (all-below _ _ (bounded-starts c.requires.bounded)) in
    let ends = below_wider _ 32 _ c.requires.bounded.nodes (all-below _ _ (bounded-ends c.requires.bounded)) in
    record {
      part_starts_len = (omega (arith, c.requires.bounded.parallel), search rules, search rules);
      n_bound = (c.requires.bounded_2.nodes, c.requires.bounded_2.parallel, c.requires.bounded_2.links);
      t = (bounded-starts c.requires.bounded_2, bounded-ends c.requires.bounded_2);
      masks_len = (refl, record { in_offsets = refl; in_targets = refl });
    }

-- what is left is of the pattern and of the board, along the directions that count
made : (c : After-prepare_along) →
    PreparedBy (ways_of c.args.ways) (circuit c.args.part_labels.now c.args.part_starts.now c.args.part_ends.now)
    (circuit c.args.node_labels.now c.args.node_starts.now c.args.node_ends.now)
    (tables c.prepare_along.new.masks c.prepare_along.new.offsets c.prepare_along.new.targets)
made c = prepared c.requires.bounded c.prepare_along.ensures.masked_by c.prepare_along.ensures.net_of

pub match_tables-requires : goal.match_tables-requires
match_tables-requires c =
    record {
      some_links = record { ways = _; part_starts = _; part_ends = _; node_starts = _; node_ends = _; prepared = made (goal.at.match_tables-requires c).After-prepare_along };
      table_len = c.requires.table_len;
    }

pub returns : goal.returns
returns c =
    c.match_tables.ensures _ _ _ _ _ (made (goal.at.returns c).After-prepare_along)
