-- `heronditch::files::heronditch_write` meets its contract: the call of the crate below, its reply as numbers. Assumes
-- nothing.
use Rattle.base_lists.specs.Kit.{ap}
use Rattle.heronditch.specs.Host.{host_write}
use Rattle.heronditch.proofs.files.heronditch_write.Goals as goal

pub returns : goal.returns
unfolding host_write
returns c =
    rw (c.of_number.ensures, ← c.role_of.ensures, ← c.as_role.ensures, ← c.edition_of.ensures) (ap host_write c.write.ensures)
