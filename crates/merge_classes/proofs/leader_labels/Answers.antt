-- `merge_classes::leader_labels` meets its contract. Assumes nothing.
use Rattle.std.specs.Prelude.{◌≤◌, ◌+◌}
use Rattle.base_lists.specs.Kit.{◌∙◌, ap, refl, ap₂, List, ℕ, length, get_or, set, sets, arith}
use Rattle.base_lists.specs.Below.{count_below}
use Rattle.base_lists.proofs.Below.{count_below-le}
use Rattle.merge.specs.Merged.{is_leader}
use Rattle.merge_classes.proofs.Numbering.{leads-itself, follows, count-leader, count-follower, kinds-none, kinds-leader, kinds-follower, kinds-all}
use Rattle.merge_classes.proofs.leader_labels.Goals as goal
use Rattle.merge_classes.proofs.leader_labels.Goals.{At-loop-u, else-leader-u, then-leader-u}

pub loop-u-init : goal.loop-u-init
unfolding count_below
loop-u-init c = (refl, kinds-none _ _ _)

-- fewer classes than parts so far
few : (c : At-loop-u) → c.loop-u.next ≤ c.loop-u.u
few c =
    omega (arith, count_below-le c.loop-u.u (is_leader (length c.args.table.now) c.args.table.now))

pub offset_bounds-out-next : goal.offset_bounds-out-next
offset_bounds-out-next c = omega (arith, few (goal.at.offset_bounds-out-next c).At-loop-u)

pub bounds-out-next : goal.bounds-out-next
bounds-out-next c = omega (arith, few (goal.at.bounds-out-next c).At-loop-u)

pub overflow_add-next : goal.overflow_add-next
overflow_add-next c = omega (arith, few (goal.at.overflow_add-next c).At-loop-u)

-- whether the part leads its class or not, the kinds of those that do are stored
pub loop-u-preserved : goal.loop-u-preserved
loop-u-preserved c =
    elim c.if-leader-u.branch [
      | then-leader-u w ↦ let leads = leads-itself c.args.table.now c.loop-u.u c.leader.result c.leader.ensures w.if-leader-u.true in (
        w.next-is ∙ ap (λ (k : ℕ). k + 1) c.loop-u.invariant.0 ∙ count-leader c.args.table.now c.loop-u.u leads,
        w.out-is ∙ ap₂ (λ (out : List ℕ) (k : ℕ). set out k (get_or c.args.labels.now c.loop-u.u 0)) c.loop-u.invariant.1 c.loop-u.invariant.0 ∙ kinds-leader c.args.table.now c.args.labels.now c.args.out.now c.loop-u.u leads,
      )
      | else-leader-u w ↦ let other = follows c.args.table.now c.loop-u.u c.leader.result c.leader.ensures w.if-leader-u.false in (
        w.next-is ∙ c.loop-u.invariant.0 ∙ count-follower c.args.table.now c.loop-u.u other,
        w.out-is ∙ c.loop-u.invariant.1 ∙ ap (sets c.args.out.now 0) (kinds-follower c.args.table.now c.args.labels.now c.loop-u.u other),
      )
    ]

pub returns : goal.returns
returns c =
    c.loop-u.invariant.1
    ∙ ap (sets c.args.out.now 0) (kinds-all c.args.table.now c.args.labels.now c.loop-u.u (omega (arith, c.requires.labels_len.0)))
