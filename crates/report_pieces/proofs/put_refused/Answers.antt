-- `report_pieces::put_refused` meets its contract: the one line at the start, nothing after. Assumes nothing.
use Rattle.base_lists.specs.Kit.{arith}
use Rattle.base_text.specs.Text.{Fits}
use Rattle.report.specs.Report.{refusal_line}
use Rattle.report_pieces.proofs.Refused.{refused-later, refused-fits, refused-first}
use Rattle.report_pieces.proofs.put_refused.Goals as goal
use Rattle.report_pieces.proofs.put_refused.Goals.{Start}

pub returns-then-from-ne0 : goal.returns-then-from-ne0
returns-then-from-ne0 c =
    rw c.put_nothing.ensures (refused-later c.args.x _ c.args.from c.args.found c.if-from-ne0.true)

-- the buffer has room for the line
fits : (s : Start) → Fits s.args.out.now 0 (refusal_line s.args.x)
fits s = refused-fits s.args.x s.args.out.now s.args.from s.args.found (omega arith) s.requires

pub put_refusal-size-requires : goal.put_refusal-size-requires
put_refusal-size-requires c = omega (arith, c.requires)

pub returns : goal.returns
returns c =
    refused-first c.args.x c.args.out.now c.args.from c.args.found c.if-from-ne0.false (fits (goal.at.returns c).Start) c.put_refusal-size.ensures
