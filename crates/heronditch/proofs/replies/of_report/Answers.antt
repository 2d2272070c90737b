-- `heronditch::replies::of_report` meets its contract, case by case. Assumes nothing.
use Rattle.report_answer.specs.Call.{report_reply}
use Rattle.heronditch_reply.specs.Replies.{pieced, verdict_number, meant_file}
use Rattle.heronditch.proofs.replies.of_report.Goals as goal

pub returns-in-Ok : goal.returns-in-Ok
unfolding pieced verdict_number meant_file report_reply
returns-in-Ok c = rw (c.in-Ok.is, c.put_piece.ensures)

pub returns-in-Err : goal.returns-in-Err
unfolding pieced verdict_number meant_file report_reply
returns-in-Err c = rw (c.in-Err.is, c.refused_piece.ensures)
