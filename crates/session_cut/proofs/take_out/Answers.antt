-- `session_cut::take_out` meets its contract. Assumes nothing.
use Rattle.std.specs.Prelude.{◌≤◌, ◌<◌, ◌+◌, Option, Some}
use Rattle.base_lists.specs.Kit.{sym, subst, ap₂, ℕ, length-set, arith}
use Rattle.base_lists.proofs.Entries.{get_d_any}
use Rattle.graph.specs.Search.{far}
use Rattle.session.specs.State.{ends_without}
use Rattle.session_cut.specs.Cut.{TakenOut}
use Rattle.session_cut.proofs.Cuts.{gone-place, gone-end, taken-link}
use Rattle.session_cut.proofs.take_out.Goals as goal

pub returns-then-link_index-ge-FORWARD_TARGETS : goal.returns-then-link_index-ge-FORWARD_TARGETS
returns-then-link_index-ge-FORWARD_TARGETS c = gone-place _ _ _ c.if-link_index-ge-FORWARD_TARGETS.true

pub overflow_cast-end : goal.overflow_cast-end
overflow_cast-end c = omega (arith, c.type_inv.ends c.args.link_index)

pub returns-then-nodes-end : goal.returns-then-nodes-end
returns-then-nodes-end c =
    gone-end c.args.ends.now c.args.nodes c.args.link_index c.if-link_index-ge-FORWARD_TARGETS.false (subst (λ (x : ℕ). c.args.nodes ≤ x) (get_d_any c.args.ends.now c.args.link_index 0 far (omega (arith, c.requires))) c.if-nodes-end.true)

pub overflow_cast-start : goal.overflow_cast-start
overflow_cast-start c = omega (arith, c.slice_known-2-1.given (4096 + c.args.link_index))

pub bounds-ends-back-2 : goal.bounds-ends-back-2
bounds-ends-back-2 c = simp length-set (omega (arith, c.requires))

pub returns : goal.returns
returns c =
    let end = get_d_any c.args.ends.now c.args.link_index 0 far (omega (arith, c.requires)) in
    let first = get_d_any c.args.ends.now (4096 + c.args.link_index) 0 far (omega (arith, c.requires)) in
    subst (λ (x : Option (ℕ × ℕ)). TakenOut c.args.ends.now c.args.nodes c.args.link_index x (ends_without c.args.ends.now c.args.link_index)) (ap₂ (λ (x y : ℕ). Some (x, y)) (sym first) (sym end))
    (taken-link c.args.ends.now c.args.nodes c.args.link_index c.if-link_index-ge-FORWARD_TARGETS.false (subst (λ (x : ℕ). x < c.args.nodes) end c.if-nodes-end.false))
