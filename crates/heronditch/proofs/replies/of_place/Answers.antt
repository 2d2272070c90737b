-- `heronditch::replies::of_place` meets its contract, case by case. Assumes nothing.
use Rattle.place.specs.Outcome.{place_reply}
use Rattle.heronditch_reply.specs.Replies.{counted, verdict_number, meant_file}
use Rattle.heronditch.proofs.replies.of_place.Goals as goal

pub returns-in-Ok : goal.returns-in-Ok
unfolding counted verdict_number meant_file place_reply
returns-in-Ok c = rw (c.in-Ok.is, c.with_counts.ensures)

pub returns-in-Err : goal.returns-in-Err
unfolding counted verdict_number meant_file place_reply
returns-in-Err c = rw (c.in-Err.is, c.refused_with.ensures)
