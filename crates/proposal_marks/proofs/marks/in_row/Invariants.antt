-- `proposal_marks::marks::in_row` meets its contract: the nodes passed were reached, where they are marked. Assumes nothing.
use Rattle.std.specs.Prelude.{◌≡◌, ◌<◌}
use Rattle.base_lists.specs.Kit.{ℕ, get_or}
use Rattle.graph.specs.Search.{far}
use Rattle.proposal_marks.proofs.marks.in_row.Given as goal

abbrev pub invariant-loop-v : goal.invariant-loop-v
invariant-loop-v l = (k : ℕ) → k < l.v → get_or l.nodes k 0 ≡ 1 → get_or l.dist k 0 ≡ far → ⊥
