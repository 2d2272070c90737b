-- `call_report::report` meets its contract: the files are opened, and a piece is put from what that leaves. Assumes nothing.
use Rattle.call_report.proofs.report.Goals as goal

pub put-requires : goal.put-requires
put-requires c = record { pattern = _; board = _; opened = c.open-read.ensures }

pub returns : goal.returns
returns c = c.put.ensures _ _ c.open-read.ensures
