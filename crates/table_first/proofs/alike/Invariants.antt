-- `table_first::alike` meets its contract. The loop's invariant: the set so far is that of the parts before u. Assumes nothing.
use Rattle.std.specs.Prelude.{◌≡◌}
use Rattle.base_lists.specs.Kit.{get_or}
use Rattle.base_bits.specs.Bits.{number_of}
use Rattle.table.specs.Row.{kinds_agree}
use Rattle.table_first.proofs.alike.Given as goal

abbrev pub invariant-loop-u : goal.invariant-loop-u
invariant-loop-u l = l.set ≡ number_of l.u (λ x. kinds_agree (get_or l.part_labels x 0) l.kind)
