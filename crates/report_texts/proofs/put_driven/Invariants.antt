-- `report_texts::put_driven` meets its contract. The loop's invariant: the links to the nodes of the list so far are put. Assumes
-- nothing.
use Rattle.base_lists.specs.Kit.{List, ℕ, get_or}
use Rattle.base_lists.specs.Below.{concat_below}
use Rattle.base_text.specs.Text.{Put}
use Rattle.report_texts.specs.Texts.{link_text}
use Rattle.report_texts.proofs.put_driven.Given as goal

-- the link to the i-th node of the list
abbrev pub link_to : List ℕ → ℕ → List ℕ → ℕ → ℕ → List ℕ
link_to nodes driven sets v i = link_text driven (get_or sets (get_or nodes i 0) 0) v (get_or nodes i 0)

abbrev pub invariant-loop-i : goal.invariant-loop-i
invariant-loop-i l = Put l.initial.out l.at (concat_below l.i (link_to l.nodes l.driven l.sets l.v)) l.out l.end
