-- `heronditch::shelf::of_compare` meets its contract, case by case. Assumes nothing.
use Rattle.call_shelf.specs.Compare.{compare_reply}
use Rattle.heronditch.specs.Host.{host_compare}
use Rattle.heronditch_reply.specs.Replies.{verdict_number, meant_file}
use Rattle.heronditch.proofs.shelf.of_compare.Goals as goal

pub returns-in-Ok : goal.returns-in-Ok
unfolding host_compare verdict_number meant_file compare_reply
returns-in-Ok c = rw (c.in-Ok.is, c.order_number.ensures)

pub returns-in-Err : goal.returns-in-Err
unfolding host_compare verdict_number meant_file compare_reply
returns-in-Err c = rw (c.in-Err.is, c.refused-reply.ensures, c.which_number.ensures)
