-- `heronditch::replies::of_check` meets its contract, case by case. Assumes nothing.
use Rattle.call_check.specs.Call.{check_reply}
use Rattle.heronditch_reply.specs.Replies.{slots, verdict_number, meant_file}
use Rattle.heronditch.proofs.replies.of_check.Goals as goal

pub returns-in-Ok-true : goal.returns-in-Ok-true
unfolding slots verdict_number meant_file check_reply
returns-in-Ok-true c = rw (c.in-Ok-true.is, c.in-Ok-true.field-0-test, c.accepted.ensures)

pub returns-in-Ok-false : goal.returns-in-Ok-false
unfolding slots verdict_number meant_file check_reply
returns-in-Ok-false c = rw (c.in-Ok-false.is, c.in-Ok-false.field-0-test, c.accepted-in-Ok-false.ensures)

pub returns-in-Err : goal.returns-in-Err
unfolding slots verdict_number meant_file check_reply
returns-in-Err c = rw (c.in-Err.is, c.refused.ensures)
