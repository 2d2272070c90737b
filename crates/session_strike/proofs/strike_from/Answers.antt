-- `session_strike::strike_from` meets its contract. Assumes nothing.
use Rattle.base_lists.specs.Kit.{◌∙◌, ap, List, ℕ, length}
use Rattle.session_strike.specs.Moves.{moves_in, mark_one, mark_both, settled, settled_from}
use Rattle.session_strike.proofs.strike_from.Goals as goal

pub returns : goal.returns
unfolding settled_from mark_both
returns c =
    let marks = c.mark_one-2.ensures ∙ ap (λ (m : List ℕ). mark_one (length c.args.sets.now) m c.args.y) c.mark_one.ensures in
    c.strike_marked.ensures ∙ ap (settled c.args.masks.now (moves_in c.args.offsets.now c.args.numbers.now c.args.ends.now) c.args.sets.now) marks
