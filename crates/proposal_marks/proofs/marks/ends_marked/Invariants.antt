-- `proposal_marks::marks::ends_marked` meets its contract: the links passed have both ends marked, where they are marked. Assumes nothing.
use Rattle.std.specs.Prelude.{◌<◌}
use Rattle.base_lists.specs.Kit.{ℕ}
use Rattle.proposal_marks.proofs.Tests.{EndsAt}
use Rattle.proposal_marks.proofs.marks.ends_marked.Given as goal

abbrev pub invariant-loop-i : goal.invariant-loop-i
invariant-loop-i l = (k : ℕ) → k < l.i → EndsAt l.starts l.ends l.nodes l.link_bytes k
