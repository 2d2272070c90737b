-- `place_components::begins` meets its contract: both tests, one after the other. Assumes nothing.
use Rattle.base_lists.specs.Kit.{eq-eqb, ne_eqb}
use Rattle.place_components.proofs.begins.Goals as goal

pub returns-then-set-eq0 : goal.returns-then-set-eq0
returns-then-set-eq0 c = rw (eq-eqb c.args.set 0 c.if-set-eq0.true)

pub returns : goal.returns
returns c = rw (ne_eqb c.args.set 0 c.if-set-eq0.false)
