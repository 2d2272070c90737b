-- `report_texts::note_text` meets its contract. Assumes nothing.
use Rattle.base_lists.specs.Kit.{length-set, arith, le-ltb, lt-ltb}
use Rattle.report_texts.specs.Texts.{noting}
use Rattle.report_texts.proofs.note_text.Goals as goal

pub returns-then-text-gt-FURTHEST : goal.returns-then-text-gt-FURTHEST
unfolding noting
returns-then-text-gt-FURTHEST c = rw (lt-ltb _ _ c.if-text-gt-FURTHEST.true)

pub overflow_cast-texts : goal.overflow_cast-texts
overflow_cast-texts c = omega (arith, c.if-text-gt-FURTHEST.false, c.requires)

pub overflow_cast-texts-2 : goal.overflow_cast-texts-2
overflow_cast-texts-2 c = omega (arith, c.if-text-gt-FURTHEST.false)

pub bounds-texts-number-2 : goal.bounds-texts-number-2
bounds-texts-number-2 c =
    omega (arith, c.requires, length-set c.args.texts.now c.args.number c.args.text.from)

pub returns : goal.returns
unfolding noting
returns c = rw (le-ltb _ _ c.if-text-gt-FURTHEST.false)
