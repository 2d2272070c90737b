-- `heronditch::files::heronditch_convert` meets its contract: the call of the crate below, its reply as numbers.
-- Assumes nothing.
use Rattle.base_lists.specs.Kit.{ap}
use Rattle.heronditch.specs.Host.{host_convert}
use Rattle.heronditch.proofs.files.heronditch_convert.Goals as goal

pub returns : goal.returns
unfolding host_convert
returns c =
    rw (c.of_number.ensures, ← c.role_of.ensures, ← c.as_role.ensures, ← c.edition_of.ensures, ← c.edition_of-2.ensures) (ap host_convert c.convert.ensures)
