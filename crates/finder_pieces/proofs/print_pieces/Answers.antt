use Rattle.base_lists.specs.Kit.{sym, zero-le, length-take-le, arith}
use Rattle.file_format.specs.Layout.{first_edition}
use Rattle.call_open.proofs.Opened.{opened-later}
use Rattle.report_answer.proofs.Promise.{places-few, put-within, put-follows, put-text, put-none}
use Rattle.report_answer.proofs.Whole.{places-start}
use Rattle.finder_pieces.specs.Handed.{GoesOn, ReportHanded}
use Rattle.finder_pieces.proofs.print_pieces.Goals as goal

pub loop-part-init : goal.loop-part-init
loop-part-init c =
    let none = c.requires.longest_line_in_bounds.1 in
    (rw none zero-le, rw none (sym (places-start _ _ _)), c.requires.longest_line_in_bounds.0)

-- the files were opened for all pieces, and so for this one
pub put-answer-requires : goal.put-answer-requires
put-answer-requires c = record { pattern = _; board = _; opened = opened-later zero-le c.requires.opened }

pub returns-in_default : goal.returns-in_default
unfolding ReportHanded
returns-in_default c = c.loop-part.invariant.0

pub returns-then-size-eq0 : goal.returns-then-size-eq0
unfolding ReportHanded
returns-then-size-eq0 c =
    let inv = c.loop-part.invariant in
    let told = c.in-Ok.ensures _ _ (opened-later zero-le c.requires.opened) in
    put-none _ _ _ _ _ _ inv.2 told inv.0 c.if-size-eq0.true

pub slice_bounds-hand-end : goal.slice_bounds-hand-end
slice_bounds-hand-end c =
    let told = c.in-Ok.ensures _ _ (opened-later zero-le c.requires.opened) in
    put-within _ _ _ _ _ _ c.loop-part.invariant.2 told

pub slice_bounds-hand-end-in-loop-part : goal.slice_bounds-hand-end-in-loop-part
slice_bounds-hand-end-in-loop-part c =
    let told = c.in-Ok.ensures _ _ (opened-later zero-le c.requires.opened) in
    sym (length-take-le _ _ (put-within _ _ _ _ _ _ c.loop-part.invariant.2 told))

pub hand-requires : goal.hand-requires
unfolding GoesOn
hand-requires c =
    let inv = c.loop-part.invariant in
    let told = c.in-Ok.ensures _ _ (opened-later zero-le c.requires.opened) in
    put-text _ _ _ _ _ _ inv.2 told inv.0 inv.1

-- a piece that was not taken leaves as many items handed over as before
pub returns-then-not-hand : goal.returns-then-not-hand
unfolding ReportHanded
returns-then-not-hand c =
    let kept = rw c.if-not-hand.true at c.hand.ensures in
    rw kept c.loop-part.invariant.0

pub overflow_cast-found : goal.overflow_cast-found
overflow_cast-found c =
    let inv = c.loop-part.invariant in
    let told = c.in-Ok.ensures _ _ (opened-later zero-le c.requires.opened) in
    let (within, places, more) = put-follows _ _ _ _ _ _ inv.2 told inv.0 inv.1 in
    omega (arith, places, places-few (first_edition c.args.pattern.now) (first_edition c.args.board.now) c.in-Ok.part.next)

pub loop-part-smaller : goal.loop-part-smaller
loop-part-smaller c =
    let inv = c.loop-part.invariant in
    let told = c.in-Ok.ensures _ _ (opened-later zero-le c.requires.opened) in
    let (within, places, more) = put-follows _ _ _ _ _ _ inv.2 told inv.0 inv.1 in
    let reached = rw c.if-not-hand.false at c.hand.ensures in
    omega (arith, more c.if-size-eq0.false, within, reached)

pub loop-part-preserved : goal.loop-part-preserved
loop-part-preserved c =
    let inv = c.loop-part.invariant in
    let told = c.in-Ok.ensures _ _ (opened-later zero-le c.requires.opened) in
    let (within, places, more) = put-follows _ _ _ _ _ _ inv.2 told inv.0 inv.1 in
    let reached = rw c.if-not-hand.false at c.hand.ensures in
    (rw reached within, rw reached places, omega (arith, c.put-answer.auto.out, inv.2))
