-- `session_strike::reach` meets its contract. The loop's invariant: the union so far, with the sets at the ends of the links that are left, is the whole
-- union. Assumes nothing.
use Rattle.std.specs.Prelude.{◌+◌}
use Rattle.base_lists.specs.Kit.{◌∙◌, sym, ap, ℕ, get_or, drop, arith}
use lib.Bits.{bit_or, or_zero_l}
use Rattle.base_bits.specs.Bits.{union_at}
use Rattle.session_strike.specs.Moves.{beyond}
use Rattle.session_strike.proofs.Entries.{union-next, union-end}
use Rattle.session_strike.proofs.reach.Goals as goal

pub loop-number-init : goal.loop-number-init
loop-number-init c = or_zero_l _

pub loop-number-preserved : goal.loop-number-preserved
loop-number-preserved c =
    ap (λ (x : ℕ). bit_or (bit_or c.loop-number.union x) (union_at c.args.sets.now (beyond c.args.ends.now (drop (c.loop-number.number-index + 1) c.args.numbers.now))))
    (c.set_at-union.ensures ∙ ap (λ (w : ℕ). get_or c.args.sets.now w 0) c.end_of.ensures)
    ∙ union-next c.args.sets.now c.args.ends.now c.args.numbers.now c.loop-number.union c.loop-number.number-index (omega arith)
    ∙ c.loop-number.invariant

pub returns : goal.returns
returns c =
    sym (union-end c.args.sets.now c.args.ends.now c.args.numbers.now c.loop-number.union c.loop-number.number-index c.loop-number-test.false) ∙ c.loop-number.invariant
