-- `session_strike::mark_ends` meets its contract. The loop's invariant: marking the ends of the links that are left leads to the whole. Assumes nothing.
use Rattle.std.specs.Prelude.{◌+◌}
use Rattle.base_lists.specs.Kit.{◌∙◌, sym, ap, refl, List, ℕ, drop, arith}
use Rattle.session_strike.specs.Moves.{beyond, mark_one, mark_all}
use Rattle.session_strike.proofs.Entries.{marks-next, marks-end}
use Rattle.session_strike.proofs.mark_ends.Goals as goal

pub loop-number-init : goal.loop-number-init
loop-number-init c = refl

pub mark_one-requires : goal.mark_one-requires
mark_one-requires c = (c.requires.0, c.loop-number.auto.marks ∙ c.requires.1)

pub loop-number-preserved : goal.loop-number-preserved
loop-number-preserved c =
    ap (λ (m : List ℕ). mark_all c.args.n m (beyond c.args.ends.now (drop (c.loop-number.number-index + 1) c.args.numbers.now)))
    (c.mark_one.ensures ∙ ap (mark_one c.args.n c.loop-number.marks) c.end_of.ensures)
    ∙ marks-next c.args.n c.args.ends.now c.args.numbers.now c.loop-number.marks c.loop-number.number-index (omega arith)
    ∙ c.loop-number.invariant

pub returns : goal.returns
returns c =
    sym (marks-end c.args.n c.args.ends.now c.args.numbers.now c.loop-number.marks c.loop-number.number-index c.loop-number-test.false) ∙ c.loop-number.invariant
