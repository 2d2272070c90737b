-- `report::lines::put_links` meets its contract. The loop's invariant: the links that start below v are put. Assumes nothing.
use Rattle.base_lists.specs.Below.{concat_below}
use Rattle.base_text.specs.Text.{Put}
use Rattle.table.specs.Prepared.{tables}
use Rattle.report_texts.specs.Texts.{start_text}
use Rattle.report.proofs.lines.put_links.Given as goal

abbrev pub invariant-loop-v : goal.invariant-loop-v
invariant-loop-v l = Put l.initial.out l.at (concat_below l.v (start_text (tables l.masks l.offsets l.targets) l.dist l.sets)) l.out l.end
