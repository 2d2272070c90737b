-- `call_prepare::read_prepared` meets its contract: a file is refused, or what is prepared is of the two circuits that
-- were read. Assumes nothing.
use mathlib.Core.Path.{◌≡◌, sym}
use Rattle.std.proofs.Common.{Err}
use Rattle.std.proofs.lemmas.Grind.{common_steps}
use native.Mathlib.Omega.{arith}
use borrow.Author.Rules.{rules}
use Rattle.file_format.specs.Layout.{in_edition}
use Rattle.file_format.proofs.Accepted.{bounded-starts, bounded-ends}
use Rattle.file_format.proofs.Reading.{stands-size, stands-room}
use Rattle.file_pair.specs.Pair.{BothRead}
use Rattle.file_pair.proofs.Both.{pattern-bounded, board-bounded}
use Rattle.table.proofs.Prepare.{prepared}
use Rattle.call_prepare.proofs.Ready.{as-pattern, pair-turned, pair-ready}
use Rattle.base_lists.proofs.Entries.{all-below, below_wider}
use Rattle.call_prepare.proofs.read_prepared.Goals as goal
use Rattle.call_prepare.proofs.read_prepared.Goals.{In_ok-read}

pub read_pair-requires : goal.read_pair-requires
read_pair-requires c = (
  record { for_kinds = omega (arith, c.requires.as_pattern.nodes, c.requires.pk_len.0); for_starts = omega (arith, c.requires.as_pattern.links); for_ends = omega (arith, c.requires.as_pattern.links) },
  record { for_kinds = omega (arith, c.requires.pk_len.1); for_starts = search rules; for_ends = search rules },
)

pub returns-in_err-read : goal.returns-in_err-read
returns-in_err-read c =
    let e : c.from_residual.result ≡ Err c.in_err-read.field-0.0 = grind (arith, common_steps) in
    rw e (pair-turned c.read_pair.ensures c.in_err-read.was)

-- both were read
both : (c : In_ok-read) →
    BothRead c.args.reading.role (in_edition c.args.reading.editions.pattern c.args.pattern.now) (in_edition c.args.reading.editions.board c.args.board.now) c.in_ok-read.read ((record { labels = c.read_pair.new.pk; starts = c.read_pair.new.ps; ends = c.read_pair.new.pe })) ((record { labels = c.read_pair.new.nk; starts = c.read_pair.new.ns; ends = c.read_pair.new.ne }))
both c = c.read_pair.ensures.both _ c.in_ok-read.was

pub slice_bounds-ps-end : goal.slice_bounds-ps-end
slice_bounds-ps-end c = (stands-room (both (goal.at.slice_bounds-ps-end c).In_ok-read).drawn).1

pub slice_bounds-prepare_along-end : goal.slice_bounds-prepare_along-end
slice_bounds-prepare_along-end c = sym (stands-size (both (goal.at.slice_bounds-prepare_along-end c).In_ok-read).drawn).1

pub slice_bounds-pe-end : goal.slice_bounds-pe-end
slice_bounds-pe-end c = (stands-room (both (goal.at.slice_bounds-pe-end c).In_ok-read).drawn).2

pub slice_bounds-prepare_along-end-2 : goal.slice_bounds-prepare_along-end-2
slice_bounds-prepare_along-end-2 c = sym (stands-size (both (goal.at.slice_bounds-prepare_along-end-2 c).In_ok-read).drawn).2

pub slice_bounds-ns-end : goal.slice_bounds-ns-end
slice_bounds-ns-end c = (stands-room (both (goal.at.slice_bounds-ns-end c).In_ok-read).given).1

pub slice_bounds-prepare_along-end-3 : goal.slice_bounds-prepare_along-end-3
slice_bounds-prepare_along-end-3 c = sym (stands-size (both (goal.at.slice_bounds-prepare_along-end-3 c).In_ok-read).given).1

pub slice_bounds-ne-end : goal.slice_bounds-ne-end
slice_bounds-ne-end c = (stands-room (both (goal.at.slice_bounds-ne-end c).In_ok-read).given).2

pub slice_bounds-prepare_along-end-4 : goal.slice_bounds-prepare_along-end-4
slice_bounds-prepare_along-end-4 c = sym (stands-size (both (goal.at.slice_bounds-prepare_along-end-4 c).In_ok-read).given).2

pub prepare_along-requires : goal.prepare_along-requires
prepare_along-requires c =
    let b = both (goal.at.prepare_along-requires c).In_ok-read in
    let pattern = as-pattern c.requires.as_pattern (pattern-bounded b) in
    let board = board-bounded b in
    let size = (stands-size b.given).0 in
    let starts = below_wider _ 32 _ pattern.nodes (all-below _ _ (bounded-starts pattern)) in
    let ends = below_wider _ 32 _ pattern.nodes (all-below _ _ (bounded-ends pattern)) in record {
      part_starts_len = (pattern.parallel, starts, ends);
      n_bound = (rw size at board.nodes, board.parallel, board.links);
      t = (rw size at (bounded-starts board), rw size at (bounded-ends board));
      masks_len = c.requires.masks_len;
    }

pub returns : goal.returns
returns c =
    let b = both (goal.at.returns c).In_ok-read in
    pair-ready c.read_pair.ensures c.in_ok-read.was c.requires.as_pattern (prepared (as-pattern c.requires.as_pattern (pattern-bounded b)) c.prepare_along.ensures.masked_by (rw (stands-size b.given).0 c.prepare_along.ensures.net_of))
