-- `heronditch::places::heronditch_check` meets its contract: the call of the crate below, its reply as numbers. Assumes
-- nothing.
use Rattle.base_lists.specs.Kit.{ap}
use Rattle.heronditch_reply.specs.Replies.{slots}
use Rattle.heronditch.proofs.places.heronditch_check.Goals as goal

pub returns : goal.returns
returns c =
    rw (c.of_check.ensures, ← c.editions_of.ensures.0, ← c.editions_of.ensures.1) (ap slots c.check.ensures)
