-- `heronditch_reply::of_read` meets its contract, case by case. Assumes nothing.
use Rattle.file_format.specs.Reply.{read_reply}
use Rattle.heronditch_reply.specs.Replies.{slots, verdict_number, meant_file}
use Rattle.heronditch_reply.proofs.of_read.Goals as goal

pub returns-in-Ok : goal.returns-in-Ok
unfolding slots verdict_number meant_file read_reply
returns-in-Ok c = rw (c.in-Ok.is, c.accepted.ensures)

pub returns-in-Err : goal.returns-in-Err
unfolding slots verdict_number meant_file read_reply
returns-in-Err c = rw (c.in-Err.is, c.refused.ensures)
