-- `heronditch::files::heronditch_read` meets its contract: the call of the crate below, its reply as numbers. Assumes
-- nothing.
use Rattle.base_lists.specs.Kit.{ap}
use Rattle.heronditch.specs.Host.{host_read}
use Rattle.heronditch.proofs.files.heronditch_read.Goals as goal

pub shape_of-kinds : goal.shape_of-kinds
shape_of-kinds c = c.read.auto.kinds

pub shape_of-packages : goal.shape_of-packages
shape_of-packages c = c.read.auto.packages

pub shape_of-starts : goal.shape_of-starts
shape_of-starts c = c.read.auto.starts

pub shape_of-ends : goal.shape_of-ends
shape_of-ends c = c.read.auto.ends

pub returns : goal.returns
unfolding host_read
returns c =
    rw (c.of_read.ensures, ← c.role_of.ensures, ← c.as_role.ensures, ← c.edition_of.ensures) (ap host_read c.read.ensures)
