-- `report::lines::put_nodes` meets its contract. The loop's invariant: the nodes below v are put. Assumes nothing.
use Rattle.base_lists.specs.Below.{concat_below}
use Rattle.base_text.specs.Text.{Put}
use Rattle.report_texts.specs.Texts.{node_text}
use Rattle.report.proofs.lines.put_nodes.Given as goal

abbrev pub invariant-loop-v : goal.invariant-loop-v
invariant-loop-v l = Put l.initial.out l.at (concat_below l.v (node_text l.dist)) l.out l.end
