-- `heronditch_reply::copy_out` meets its contract: the entries do not fit, or they are copied. Assumes nothing.
use Rattle.base_lists.specs.Kit.{le-ltb, lt-ltb}
use Rattle.file_format.specs.Reading.{filled}
use Rattle.file_format.specs.Refusals.{first, short_table}
use Rattle.file_format.specs.Reply.{reply}
use Rattle.heronditch_reply.specs.Replies.{file_number, verdict_number, meant_file, slots, host_neighbours}
use Rattle.heronditch_reply.proofs.copy_out.Goals as goal

pub returns-then-out-part : goal.returns-then-out-part
unfolding host_neighbours first short_table reply slots verdict_number meant_file file_number filled
returns-then-out-part c = rw c.refused.ensures (simp (lt-ltb _ _ c.if-out-part.true))

pub returns : goal.returns
unfolding host_neighbours first short_table reply slots verdict_number meant_file filled
returns c =
    rw (c.accepted.ensures, c.copy.ensures) (simp (le-ltb _ _ c.if-out-part.false))
