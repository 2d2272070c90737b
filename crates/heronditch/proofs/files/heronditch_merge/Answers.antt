-- `heronditch::files::heronditch_merge` meets its contract: the call of the crate below, its reply as numbers. Assumes
-- nothing.
use Rattle.base_lists.specs.Kit.{ap}
use Rattle.heronditch.specs.Host.{host_merge}
use Rattle.heronditch.proofs.files.heronditch_merge.Goals as goal

pub returns : goal.returns
unfolding host_merge
returns c =
    rw (c.of_merge.ensures, ← c.edition_of.ensures) (ap host_merge c.merge.ensures)
