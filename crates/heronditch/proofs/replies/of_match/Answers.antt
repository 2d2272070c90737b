-- `heronditch::replies::of_match` meets its contract, case by case. Assumes nothing.
use Rattle.table.specs.Reply.{no_counts}
use Rattle.call_match.specs.Call.{reply_of}
use Rattle.heronditch_reply.specs.Replies.{counted, verdict_number, meant_file}
use Rattle.heronditch.proofs.replies.of_match.Goals as goal

pub returns-in-Ok : goal.returns-in-Ok
unfolding counted verdict_number meant_file reply_of no_counts
returns-in-Ok c = rw (c.in-Ok.is, c.with_counts.ensures)

pub returns-in-Err : goal.returns-in-Err
unfolding counted verdict_number meant_file reply_of no_counts
returns-in-Err c = rw (c.in-Err.is, c.refused_with.ensures)
