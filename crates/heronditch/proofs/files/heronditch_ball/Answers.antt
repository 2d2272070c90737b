-- `heronditch::files::heronditch_ball` meets its contract: the call of the crate below, its reply as numbers. Assumes
-- nothing.
use Rattle.base_lists.specs.Kit.{ap}
use Rattle.heronditch.specs.Host.{host_ball}
use Rattle.heronditch.proofs.files.heronditch_ball.Goals as goal

pub returns : goal.returns
unfolding host_ball
returns c =
    rw (c.of_number.ensures, ← c.edition_of.ensures) (ap host_ball c.ball.ensures)
