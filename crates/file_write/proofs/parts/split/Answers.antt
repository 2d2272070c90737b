-- `file_write::parts::split` meets its contract. The loop's invariant: the kinds and the packages of the labels passed stand at the front. Assumes
-- nothing.
use Rattle.std.specs.Prelude.{◌≡◌}
use Rattle.base_lists.specs.Kit.{◌∙◌, length, arith}
use Rattle.base_lists.proofs.Tables.{filled_none, filled_more, stored-whole}
use Rattle.file_format.specs.Label.{kind_in, package_in, kinds_in, packages_in}
use Rattle.file_write.proofs.parts.split.Goals as goal

pub loop-i-init : goal.loop-i-init
loop-i-init c = (filled_none _ _, filled_none _ _)

pub loop-i-preserved : goal.loop-i-preserved
unfolding kind_in package_in
loop-i-preserved c = (rw c.loop-i.invariant.0 (filled_more _ _ _ (omega arith)), rw c.loop-i.invariant.1 (filled_more _ _ _ (omega arith)))

pub returns : goal.returns
unfolding kinds_in packages_in
returns c =
    let done : c.loop-i.i ≡ length c.args.labels.now = omega arith in
    rw (← done)
    (c.loop-i.invariant.0 ∙ stored-whole _ _ c.loop-i.i (omega arith), c.loop-i.invariant.1 ∙ stored-whole _ _ c.loop-i.i (omega arith))
