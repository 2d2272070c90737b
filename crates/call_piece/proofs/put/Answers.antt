-- `call_piece::put` meets its contract: the line of a refused file is put, or nothing past the last line, or a piece of the lines, where there is
-- room. Assumes nothing.
use Rattle.base_lists.specs.Kit.{◌∙◌, sym, length-take-le}
use Rattle.file_format.specs.Circuit.{circuit_of}
use Rattle.table.specs.Prepared.{tables}
use Rattle.report_pieces.proofs.Pieces.{past-wrote}
use Rattle.call_open.specs.Opened.{OpenedBoth}
use Rattle.call_open.proofs.Opened.{opened-turned, opened-verdict}
use Rattle.report_answer.proofs.Outcome.{outcome-short, outcome-put, reporting-refused, reporting-lines}
use Rattle.call_piece.proofs.put.Goals as goal
use Rattle.call_piece.proofs.put.Goals.{In-Ok}

-- ---- a file is refused
pub returns-in-Err : goal.returns-in-Err
returns-in-Err c pattern board o = c.answer_refused.ensures ∙ reporting-refused _ _ _ _ _ (opened-turned o c.in-Err.is)

-- both files were accepted
both : (c : In-Ok) →
    OpenedBoth c.args.from (circuit_of c.requires.pattern) (circuit_of c.requires.board) c.in-Ok.pair (tables c.args.masks.now c.args.offsets.now c.args.targets.now)
    c.args.whole.now c.args.component_of.now c.args.sizes.now
both c = c.requires.opened.both _ c.in-Ok.is

pub returns-then-out-lt-LONGEST : goal.returns-then-out-lt-LONGEST
returns-then-out-lt-LONGEST c pattern board o =
    outcome-short _ _ _ c.if-out-lt-LONGEST.true ∙ reporting-lines _ _ _ _ _ (opened-verdict o c.in-Ok.is)

-- ---- past the last line
pub returns-then-nodes-from : goal.returns-then-nodes-from
returns-then-nodes-from c pattern board o =
    let b = o.both _ c.in-Ok.is in
    outcome-put _ _ _ c.if-out-lt-LONGEST.false
    (rw c.put_nothing.ensures (past-wrote _ _ c.args.from c.args.found c.args.out.now b.drawn.nodes c.ranges.found.fits (rw b.nodes at c.if-nodes-from.true)))
    ∙ reporting-lines _ _ _ _ _ (opened-verdict o c.in-Ok.is)

-- ---- the lines
pub slice_bounds-put_lines-end : goal.slice_bounds-put_lines-end
slice_bounds-put_lines-end c = sym (length-take-le _ _ (both (goal.at.slice_bounds-put_lines-end c).In-Ok).room.0)

pub slice_bounds-put_lines-end-2 : goal.slice_bounds-put_lines-end-2
slice_bounds-put_lines-end-2 c = sym (length-take-le _ _ (both (goal.at.slice_bounds-put_lines-end-2 c).In-Ok).room.1)

pub slice_bounds-put_lines-end-3 : goal.slice_bounds-put_lines-end-3
slice_bounds-put_lines-end-3 c = sym (length-take-le _ _ (both (goal.at.slice_bounds-put_lines-end-3 c).In-Ok).room.2)

pub put_lines-requires : goal.put_lines-requires
put_lines-requires c =
    let lines = (both (goal.at.put_lines-requires c).In-Ok).lines c.if-nodes-from.false in
    record {
      source_of_some = record { pattern = _; board = _; source = lines.source };
      components = lines.components;
    }

pub returns : goal.returns
returns c pattern board o =
    outcome-put _ _ _ c.if-out-lt-LONGEST.false (c.put_lines.ensures _ _ ((o.both _ c.in-Ok.is).lines c.if-nodes-from.false).source) ∙ reporting-lines _ _ _ _ _ (opened-verdict o c.in-Ok.is)
