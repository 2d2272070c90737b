-- `proposal_marks::marks::links_placed` meets its contract: the links passed are in the place. Assumes nothing.
use Rattle.std.specs.Prelude.{◌≡◌, ◌<◌}
use Rattle.base_lists.specs.Kit.{true, ℕ}
use Rattle.table.specs.Prepared.{succ_of}
use Rattle.proposal_marks.proofs.Tests.{placed_at}
use Rattle.proposal_marks.proofs.marks.links_placed.Given as goal

abbrev pub invariant-loop-i : goal.invariant-loop-i
invariant-loop-i l = (k : ℕ) → k < l.i → placed_at l.starts l.ends (succ_of l.masks) l.dist l.sets k ≡ true
