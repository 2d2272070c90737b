-- `merge_classes::number_classes` meets its contract. Assumes nothing.
use Rattle.std.specs.Prelude.{◌≡◌, ◌≤◌, ◌+◌}
use Rattle.base_lists.specs.Kit.{◌∙◌, ap, refl, ap₂, List, ℕ, length, get_or, set, arith}
use Rattle.base_lists.specs.Below.{count_below}
use Rattle.base_lists.proofs.Below.{count_below-le}
use Rattle.merge.specs.Merged.{is_leader}
use Rattle.merge_classes.proofs.Numbering.{leads-itself, follows, count-leader, count-follower, count-all, numbered-none, numbered-leader, numbered-follower, numbered-all}
use Rattle.merge_classes.proofs.number_classes.Goals as goal
use Rattle.merge_classes.proofs.number_classes.Goals.{At-loop-u, else-v-u, then-v-u}

pub loop-u-init : goal.loop-u-init
unfolding count_below
loop-u-init c = (refl, numbered-none _ _)

-- fewer classes than parts so far
few : (c : At-loop-u) → c.loop-u.next ≤ c.loop-u.u
few c =
    omega (arith, count_below-le c.loop-u.u (is_leader (length c.args.table.now) c.args.table.now))

pub overflow_cast-classes : goal.overflow_cast-classes
overflow_cast-classes c = omega (arith, few (goal.at.overflow_cast-classes c).At-loop-u)

pub overflow_add-next : goal.overflow_add-next
overflow_add-next c = omega (arith, few (goal.at.overflow_add-next c).At-loop-u)

-- the leader comes at or before the part
pub bounds-classes-v : goal.bounds-classes-v
bounds-classes-v c =
    omega (arith, c.leader-v.ensures, c.requires.self_table.led.back c.loop-u.u (omega arith))

-- whether the part leads its class or not, it has its class now
pub loop-u-preserved : goal.loop-u-preserved
loop-u-preserved c =
    elim c.if-v-u.branch [
      | then-v-u w ↦ let leads = leads-itself c.args.table.now c.loop-u.u c.leader-v.result c.leader-v.ensures w.if-v-u.true in (
        w.next-is ∙ ap (λ (k : ℕ). k + 1) c.loop-u.invariant.0 ∙ count-leader c.args.table.now c.loop-u.u leads,
        w.classes-is ∙ ap₂ (λ (classes : List ℕ) (k : ℕ). set classes c.loop-u.u k) c.loop-u.invariant.1 c.loop-u.invariant.0 ∙ numbered-leader c.args.table.now c.args.classes.now c.loop-u.u (omega arith) leads,
      )
      | else-v-u w ↦ let other = follows c.args.table.now c.loop-u.u c.leader-v.result c.leader-v.ensures w.if-v-u.false in (
        w.next-is ∙ c.loop-u.invariant.0 ∙ count-follower c.args.table.now c.loop-u.u other,
        w.classes-is
            ∙ ap₂ (λ (classes : List ℕ) (v : ℕ). set classes c.loop-u.u (get_or classes v 0)) c.loop-u.invariant.1 c.leader-v.ensures
            ∙ numbered-follower c.args.table.now c.requires.self_table.led c.args.classes.now c.loop-u.u (omega arith) (omega arith) other,
      )
    ]

pub returns : goal.returns
returns c =
    let done : c.loop-u.u ≡ length c.args.table.now = omega arith in record {
      value = c.loop-u.invariant.0 ∙ count-all c.args.table.now c.loop-u.u done;
      classes_after = c.loop-u.invariant.1 ∙ numbered-all c.args.table.now c.args.classes.now c.loop-u.u done c.requires.classes_len;
    }
