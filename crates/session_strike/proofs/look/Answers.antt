-- `session_strike::look` meets its contract: the set stays, or it is another one. Assumes nothing.
use Rattle.base_lists.specs.Kit.{◌∙◌, sym, ap, ℕ, set, length-set}
use Rattle.session_strike.specs.Moves.{moves_in, mark_beside}
use Rattle.session_strike.proofs.Looking.{look-same, look-other, next-out}
use Rattle.session_strike.proofs.look.Goals as goal

pub returns-then-set-set_at : goal.returns-then-set-set_at
returns-then-set-set_at c =
    record {
      sets_after = (look-same c.args.masks.now (moves_in c.args.offsets.now c.args.numbers.now c.args.ends.now) c.args.sets.now c.args.v c.args.marks.now
          (sym c.next_set-set.ensures ∙ c.if-set-set_at.true ∙ c.set_at.ensures)).0;
      marks_after = (look-same c.args.masks.now (moves_in c.args.offsets.now c.args.numbers.now c.args.ends.now) c.args.sets.now c.args.v c.args.marks.now
          (sym c.next_set-set.ensures ∙ c.if-set-set_at.true ∙ c.set_at.ensures)).1;
    }

pub returns-then-v-sets : goal.returns-then-v-sets
returns-then-v-sets c =
    let moves = moves_in c.args.offsets.now c.args.numbers.now c.args.ends.now in
    let other = look-other c.args.masks.now moves c.args.sets.now c.args.v c.args.marks.now
    (λ e. c.if-set-set_at.false (c.next_set-set.ensures ∙ e ∙ sym c.set_at.ensures)) in record {
      sets_after = ap (set c.args.sets.now c.args.v) c.next_set-set.ensures ∙ other.0;
      marks_after = c.mark_beside.ensures ∙ ap (λ (n : ℕ). mark_beside n moves c.args.marks.now c.args.v) (length-set c.args.sets.now c.args.v _) ∙ other.1;
    }

pub returns-else-v-sets : goal.returns-else-v-sets
returns-else-v-sets c =
    let moves = moves_in c.args.offsets.now c.args.numbers.now c.args.ends.now in
    record { sets_after = (look-same c.args.masks.now moves c.args.sets.now c.args.v c.args.marks.now (next-out c.args.masks.now moves c.args.sets.now c.args.v c.if-v-sets.false)).0; marks_after = (look-same c.args.masks.now moves c.args.sets.now c.args.v c.args.marks.now (next-out c.args.masks.now moves c.args.sets.now c.args.v c.if-v-sets.false)).1 }
