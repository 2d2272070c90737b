-- `barring_find::dropping::drop_links` meets its contract. Assumes nothing.
use Rattle.base_lists.specs.Kit.{◌∙◌, length-set, arith}
use Rattle.barring_find.proofs.Drops.{dropping-all, dropping-drop, dropping-keep, dropping-end}
use Rattle.barring_find.proofs.dropping.drop_links.Goals as goal
use Rattle.barring_find.proofs.dropping.drop_links.Goals.{else-not-bars, then-not-bars}

pub loop-i-init : goal.loop-i-init
loop-i-init c = dropping-all _ _ _ _ _ _ _ c.requires.starts_len c.fill.ensures

pub bars-requires : goal.bars-requires
bars-requires c = record {
  some_tried = c.requires.some_tried;
  starts_len = c.loop-i.invariant.long ∙ simp length-set;
}

pub loop-i-preserved : goal.loop-i-preserved
loop-i-preserved c =
    elim c.if-not-bars.branch [ then-not-bars w ↦ rw w.marks-is (dropping-keep _ _ _ _ _ _ _ c.loop-i.invariant (omega arith) (w.if-not-bars.true) c.bars.ensures) | else-not-bars w ↦ rw w.marks-is (dropping-drop _ _ _ _ _ _ _ c.loop-i.invariant (omega arith) (w.if-not-bars.false) c.bars.ensures) ]

pub returns : goal.returns
returns c = dropping-end _ _ _ _ _ _ _ c.loop-i.invariant (omega arith)
