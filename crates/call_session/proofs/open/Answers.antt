-- `call_session::open` meets its contract: a file is refused, or the tables are filled from the two circuits that were
-- read. Assumes nothing.
use mathlib.Core.Path.{◌≡◌, ◌∙◌, sym}
use Rattle.std.proofs.Common.{Err, arith}
use Rattle.std.proofs.lemmas.Grind.{common_steps}
use Rattle.base_lists.specs.Kit.{length, take, length-take-le}
use Rattle.file_format.specs.Layout.{in_edition}
use Rattle.file_format.specs.declared.Role.TheVariants.{AnyPattern}
use Rattle.file_format.proofs.Accepted.{bounded-any, bounded-starts, bounded-ends}
use Rattle.file_format.proofs.Reading.{stands-size, stands-room}
use Rattle.file_pair.specs.Pair.{BothRead}
use Rattle.file_pair.proofs.Both.{refused-pair, pattern-bounded, board-bounded}
use Rattle.session.specs.State.{state}
use Rattle.call_session.proofs.Opening.{fresh_holds, fresh-state, pattern-below, open-refused, open-held}
use Rattle.call_session.proofs.open.Goals as goal
use Rattle.call_session.proofs.open.Goals.{In_ok-read}

both : (c : In_ok-read)
    → BothRead AnyPattern (in_edition c.args.editions.pattern c.args.pattern.now) (in_edition c.args.editions.board c.args.board.now) c.in_ok-read.read ((record { labels = c.read_pair.new.pk; starts = c.read_pair.new.ps; ends = c.read_pair.new.pe })) ((record { labels = c.read_pair.new.nk; starts = c.read_pair.new.ns; ends = c.read_pair.new.ne }))
both c = c.read_pair.ensures.both _ c.in_ok-read.was

-- the sets have room for all nodes
fits : (c : In_ok-read)
    → length (take c.in_ok-read.read.nodes c.args.sets.now) ≡ c.in_ok-read.read.nodes
fits c =
    length-take-le c.in_ok-read.read.nodes c.args.sets.now
    (omega (arith, (board-bounded (both c)).nodes, (stands-size (both c).given).0, c.requires.in_sets))

-- ---- what is filled
pub returns-in_err-read : goal.returns-in_err-read
returns-in_err-read c =
    let e : c.from_residual.result ≡ Err c.in_err-read.field-0.0 = grind (arith, common_steps) in
    rw e (open-refused (refused-pair c.read_pair.ensures c.in_err-read.was))

pub slice_bounds-ps-end : goal.slice_bounds-ps-end
slice_bounds-ps-end c = (stands-room (both (goal.at.slice_bounds-ps-end c).In_ok-read).drawn).1

pub slice_bounds-store_fixed-end : goal.slice_bounds-store_fixed-end
slice_bounds-store_fixed-end c = sym (stands-size (both (goal.at.slice_bounds-store_fixed-end c).In_ok-read).drawn).1

pub slice_bounds-pe-end : goal.slice_bounds-pe-end
slice_bounds-pe-end c = (stands-room (both (goal.at.slice_bounds-pe-end c).In_ok-read).drawn).2

pub slice_bounds-store_fixed-end-2 : goal.slice_bounds-store_fixed-end-2
slice_bounds-store_fixed-end-2 c = sym (stands-size (both (goal.at.slice_bounds-store_fixed-end-2 c).In_ok-read).drawn).2

pub store_fixed-requires : goal.store_fixed-requires
store_fixed-requires c =
    let read = both (goal.at.store_fixed-requires c).In_ok-read in
    let p = bounded-any (pattern-bounded read) in
    let n = board-bounded read in
    let below = pattern-below p in
    record {
      starts_len = (p.parallel, below.0, below.1);
      parts_bound = (omega (arith, p.nodes, (stands-size read.drawn).0), omega (arith, n.nodes, (stands-size read.given).0));
      fixed_len = c.requires.in_fixed;
    }

pub slice_bounds-ns-end : goal.slice_bounds-ns-end
slice_bounds-ns-end c = (stands-room (both (goal.at.slice_bounds-ns-end c).In_ok-read).given).1

pub slice_bounds-store_links-end : goal.slice_bounds-store_links-end
slice_bounds-store_links-end c = sym (stands-size (both (goal.at.slice_bounds-store_links-end c).In_ok-read).given).1

pub slice_bounds-ne-end : goal.slice_bounds-ne-end
slice_bounds-ne-end c = (stands-room (both (goal.at.slice_bounds-ne-end c).In_ok-read).given).2

pub slice_bounds-store_links-end-2 : goal.slice_bounds-store_links-end-2
slice_bounds-store_links-end-2 c = sym (stands-size (both (goal.at.slice_bounds-store_links-end-2 c).In_ok-read).given).2

pub store_links-requires : goal.store_links-requires
store_links-requires c =
    let read = both (goal.at.store_links-requires c).In_ok-read in
    let n = board-bounded read in
    let size = (stands-size read.given).0 in
    record {
      net_room = (record { in_offsets = c.requires.in_offsets; in_targets = c.requires.in_numbers }, c.requires.in_ends);
      n_bound = omega (arith, n.nodes, size);
      starts_len = (n.parallel, n.links);
      t = (rw size at (bounded-starts n), rw size at (bounded-ends n));
    }

pub slice_bounds-pk-end : goal.slice_bounds-pk-end
slice_bounds-pk-end c = (stands-room (both (goal.at.slice_bounds-pk-end c).In_ok-read).drawn).0

pub slice_bounds-match_circuits-end : goal.slice_bounds-match_circuits-end
slice_bounds-match_circuits-end c = sym (stands-size (both (goal.at.slice_bounds-match_circuits-end c).In_ok-read).drawn).0

pub slice_bounds-ps-end-2 : goal.slice_bounds-ps-end-2
slice_bounds-ps-end-2 c = (stands-room (both (goal.at.slice_bounds-ps-end-2 c).In_ok-read).drawn).1

pub slice_bounds-match_circuits-end-2 : goal.slice_bounds-match_circuits-end-2
slice_bounds-match_circuits-end-2 c = sym (stands-size (both (goal.at.slice_bounds-match_circuits-end-2 c).In_ok-read).drawn).1

pub slice_bounds-pe-end-2 : goal.slice_bounds-pe-end-2
slice_bounds-pe-end-2 c = (stands-room (both (goal.at.slice_bounds-pe-end-2 c).In_ok-read).drawn).2

pub slice_bounds-match_circuits-end-3 : goal.slice_bounds-match_circuits-end-3
slice_bounds-match_circuits-end-3 c = sym (stands-size (both (goal.at.slice_bounds-match_circuits-end-3 c).In_ok-read).drawn).2

pub slice_bounds-nk-end : goal.slice_bounds-nk-end
slice_bounds-nk-end c = (stands-room (both (goal.at.slice_bounds-nk-end c).In_ok-read).given).0

pub slice_bounds-match_circuits-end-4 : goal.slice_bounds-match_circuits-end-4
slice_bounds-match_circuits-end-4 c = sym (stands-size (both (goal.at.slice_bounds-match_circuits-end-4 c).In_ok-read).given).0

pub slice_bounds-ns-end-2 : goal.slice_bounds-ns-end-2
slice_bounds-ns-end-2 c = (stands-room (both (goal.at.slice_bounds-ns-end-2 c).In_ok-read).given).1

pub slice_bounds-match_circuits-end-5 : goal.slice_bounds-match_circuits-end-5
slice_bounds-match_circuits-end-5 c = sym (stands-size (both (goal.at.slice_bounds-match_circuits-end-5 c).In_ok-read).given).1

pub slice_bounds-ne-end-2 : goal.slice_bounds-ne-end-2
slice_bounds-ne-end-2 c = (stands-room (both (goal.at.slice_bounds-ne-end-2 c).In_ok-read).given).2

pub slice_bounds-match_circuits-end-6 : goal.slice_bounds-match_circuits-end-6
slice_bounds-match_circuits-end-6 c = sym (stands-size (both (goal.at.slice_bounds-match_circuits-end-6 c).In_ok-read).given).2

pub slice_bounds-match_circuits-end-7 : goal.slice_bounds-match_circuits-end-7
slice_bounds-match_circuits-end-7 c =
    let read = both (goal.at.slice_bounds-match_circuits-end-7 c).In_ok-read in
    omega (arith, (board-bounded read).nodes, (stands-size read.given).0, c.requires.in_sets)

pub slice_bounds-match_circuits-end-8 : goal.slice_bounds-match_circuits-end-8
slice_bounds-match_circuits-end-8 c = sym (fits (goal.at.slice_bounds-match_circuits-end-8 c).In_ok-read)

pub match_circuits-requires : goal.match_circuits-requires
match_circuits-requires c =
    let read = both (goal.at.match_circuits-requires c).In_ok-read in
    record {
      bounded = bounded-any (pattern-bounded read);
      bounded_2 = board-bounded read;
      table_len = fits (goal.at.match_circuits-requires c).In_ok-read ∙ sym (stands-size read.given).0;
    }

pub shape_of-fixed : goal.shape_of-fixed
shape_of-fixed c = c.store_fixed.auto.fixed

pub shape_of-offsets : goal.shape_of-offsets
shape_of-offsets c = c.store_links.auto.offsets

pub shape_of-numbers : goal.shape_of-numbers
shape_of-numbers c = c.store_links.auto.numbers

pub shape_of-ends : goal.shape_of-ends
shape_of-ends c = c.store_links.auto.out

pub returns : goal.returns
returns c =
    let read = both (goal.at.returns c).In_ok-read in
    let before = state c.args.fixed.now c.args.offsets.now c.args.numbers.now c.args.ends.now c.args.sets.now in
    let p = bounded-any (pattern-bounded read) in
    let parts = sym (stands-size read.drawn).0 in
    let nodes = sym (stands-size read.given).0 in
    let long = c.match_circuits.auto.table ∙ fits (goal.at.returns c).In_ok-read in
    open-held read
    (fresh_holds _ _ (board-bounded read) p before parts nodes c.store_fixed.ensures c.store_links.ensures.links_numbered c.store_links.ensures.ended
    c.match_circuits.ensures.last long)
    (fresh-state _ _ (board-bounded read) p before parts nodes c.store_fixed.ensures c.store_links.ensures.links_numbered c.store_links.ensures.ended
    c.match_circuits.ensures.last long)
