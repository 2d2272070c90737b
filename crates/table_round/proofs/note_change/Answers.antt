-- `table_round::note_change` meets its contract. Assumes nothing.
use Rattle.base_lists.specs.Kit.{arith, eq-eqb, ne_eqb}
use Rattle.table_round.proofs.note_change.Goals as goal

pub returns-then-set-old : goal.returns-then-set-old
returns-then-set-old c =
    let e = eq-eqb c.args.set c.args.old c.if-set-old.true in
    record { count = rw e (omega arith); nodes = rw e; sets = rw e }

pub returns : goal.returns
returns c =
    let e = ne_eqb c.args.set c.args.old c.if-set-old.false in
    record { count = rw e; nodes = rw e; sets = rw e }
