-- `file_links::links_rise` meets its contract. The loop's invariant: of the links passed each number is below the next one's. Assumes nothing.
use Rattle.base_lists.specs.Kit.{sym, arith}
use Rattle.file_links.proofs.LinkTests.{no-links, rose-first, rose-not, rose-more, rose-all}
use Rattle.file_links.proofs.links_rise.Goals as goal

pub returns-then-starts-eq0 : goal.returns-then-starts-eq0
returns-then-starts-eq0 c = sym (no-links _ _ c.if-starts-eq0.true)

pub loop-i-init : goal.loop-i-init
loop-i-init c = rose-first _ _ c.if-starts-eq0.false c.number_of-last.ensures

pub returns-then-next-last : goal.returns-then-next-last
returns-then-next-last c = sym (rose-not _ _ c.loop-i.invariant (omega arith) c.number_of-next.ensures (omega arith))

pub loop-i-preserved : goal.loop-i-preserved
loop-i-preserved c = rose-more _ _ c.loop-i.invariant (omega arith) c.number_of-next.ensures c.if-next-last.false

pub returns : goal.returns
returns c = sym (rose-all _ _ c.loop-i.invariant c.loop-i-test.false)
