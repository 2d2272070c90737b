-- `heronditch::files::heronditch_radius` meets its contract: the call of the crate below, its reply as numbers. Assumes
-- nothing.
use Rattle.base_lists.specs.Kit.{ap}
use Rattle.heronditch_reply.specs.Replies.{slots}
use Rattle.heronditch.proofs.files.heronditch_radius.Goals as goal

pub returns : goal.returns
returns c =
    rw (c.of_number.ensures, ← c.edition_of.ensures) (ap slots c.radius.ensures)
