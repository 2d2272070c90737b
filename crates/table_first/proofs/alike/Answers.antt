-- `table_first::alike` meets its contract: the set so far is that of the parts before u. Assumes nothing.
use Rattle.base_lists.specs.Kit.{◌∙◌, sym, ap₂, refl, get_or}
use lib.Bits.{bit_or}
use Rattle.base_bits.specs.Bits.{number_of}
use Rattle.base_bits.proofs.Numbers.{number-insert, number-skip}
use Rattle.table.specs.Row.{kinds_agree}
use Rattle.table_first.proofs.alike.Goals as goal
use Rattle.table_first.proofs.alike.Goals.{else-kinds_agree, then-kinds_agree}

pub loop-u-init : goal.loop-u-init
unfolding number_of
loop-u-init c = refl

pub loop-u-preserved : goal.loop-u-preserved
loop-u-preserved c =
    elim c.if-kinds_agree.branch [
      | then-kinds_agree w ↦ w.set-is
          ∙ ap₂ bit_or c.loop-u.invariant w.single-set.ensures
          ∙ number-insert c.loop-u.u (λ x. kinds_agree (get_or c.args.part_labels.now x 0) c.args.kind) (sym c.kinds_agree.ensures ∙ w.if-kinds_agree.true)
      | else-kinds_agree w ↦ w.set-is ∙ c.loop-u.invariant ∙ number-skip c.loop-u.u (λ x. kinds_agree (get_or c.args.part_labels.now x 0) c.args.kind) (sym c.kinds_agree.ensures ∙ w.if-kinds_agree.false)
    ]
