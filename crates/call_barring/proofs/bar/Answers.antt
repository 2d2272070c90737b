-- `call_barring::bar` meets its contract: a file is refused, or the kept links of the two circuits that were read are
-- found. Assumes nothing.
use mathlib.Core.Path.{◌≡◌, sym}
use Rattle.std.proofs.Common.{Err, arith}
use Rattle.std.proofs.lemmas.Grind.{common_steps}
use Rattle.file_format.specs.Layout.{in_edition}
use Rattle.file_pair.specs.Pair.{BothRead}
use Rattle.file_pair.proofs.Both.{refused-pair, pattern-bounded, board-bounded}
use Rattle.file_format.specs.declared.Role.TheVariants.{Pattern}
use Rattle.file_format.proofs.Reading.{stands-size, stands-room}
use Rattle.call_barring.proofs.Finding.{bar-refused, bar-read}
use Rattle.call_barring.proofs.bar.Goals as goal
use Rattle.call_barring.proofs.bar.Goals.{In_ok-read}

both : (c : In_ok-read)
    → BothRead Pattern (in_edition c.args.editions.pattern c.args.pattern.now) (in_edition c.args.editions.board c.args.board.now) c.in_ok-read.read ((record { labels = c.read_pair.new.pk; starts = c.read_pair.new.ps; ends = c.read_pair.new.pe })) ((record { labels = c.read_pair.new.nk; starts = c.read_pair.new.ns; ends = c.read_pair.new.ne }))
both c = c.read_pair.ensures.both _ c.in_ok-read.was

-- ---- what is looked at
pub slice_bounds-pk-end : goal.slice_bounds-pk-end
slice_bounds-pk-end c = (stands-room (both (goal.at.slice_bounds-pk-end c).In_ok-read).drawn).0

pub slice_bounds-bar_on-end : goal.slice_bounds-bar_on-end
slice_bounds-bar_on-end c = sym (stands-size (both (goal.at.slice_bounds-bar_on-end c).In_ok-read).drawn).0

pub slice_bounds-ps-end : goal.slice_bounds-ps-end
slice_bounds-ps-end c = (stands-room (both (goal.at.slice_bounds-ps-end c).In_ok-read).drawn).1

pub slice_bounds-bar_on-end-2 : goal.slice_bounds-bar_on-end-2
slice_bounds-bar_on-end-2 c = sym (stands-size (both (goal.at.slice_bounds-bar_on-end-2 c).In_ok-read).drawn).1

pub slice_bounds-pe-end : goal.slice_bounds-pe-end
slice_bounds-pe-end c = (stands-room (both (goal.at.slice_bounds-pe-end c).In_ok-read).drawn).2

pub slice_bounds-bar_on-end-3 : goal.slice_bounds-bar_on-end-3
slice_bounds-bar_on-end-3 c = sym (stands-size (both (goal.at.slice_bounds-bar_on-end-3 c).In_ok-read).drawn).2

pub slice_bounds-nk-end : goal.slice_bounds-nk-end
slice_bounds-nk-end c = (stands-room (both (goal.at.slice_bounds-nk-end c).In_ok-read).given).0

pub slice_bounds-bar_on-end-4 : goal.slice_bounds-bar_on-end-4
slice_bounds-bar_on-end-4 c = sym (stands-size (both (goal.at.slice_bounds-bar_on-end-4 c).In_ok-read).given).0

pub slice_bounds-ns-end : goal.slice_bounds-ns-end
slice_bounds-ns-end c = (stands-room (both (goal.at.slice_bounds-ns-end c).In_ok-read).given).1

pub slice_bounds-bar_on-end-5 : goal.slice_bounds-bar_on-end-5
slice_bounds-bar_on-end-5 c = sym (stands-size (both (goal.at.slice_bounds-bar_on-end-5 c).In_ok-read).given).1

pub slice_bounds-ne-end : goal.slice_bounds-ne-end
slice_bounds-ne-end c = (stands-room (both (goal.at.slice_bounds-ne-end c).In_ok-read).given).2

pub slice_bounds-bar_on-end-6 : goal.slice_bounds-bar_on-end-6
slice_bounds-bar_on-end-6 c = sym (stands-size (both (goal.at.slice_bounds-bar_on-end-6 c).In_ok-read).given).2

pub bar_on-requires : goal.bar_on-requires
bar_on-requires c =
    let read = both (goal.at.bar_on-requires c).In_ok-read in
    (pattern-bounded read, board-bounded read)

pub returns-in_err-read : goal.returns-in_err-read
returns-in_err-read c =
    let e : c.from_residual.result ≡ Err c.in_err-read.field-0.0 = grind (arith, common_steps) in
    rw e (bar-refused _ _ _ _ (refused-pair c.read_pair.ensures c.in_err-read.was))

pub returns : goal.returns
returns c =
    bar-read _ _ _ _ (both (goal.at.returns c).In_ok-read) c.bar_on.ensures
