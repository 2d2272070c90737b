-- `session_strike::next_set` meets its contract. Of an empty set nothing survives, so that its neighbours need no look. Assumes nothing.
use Rattle.base_lists.specs.Kit.{◌∙◌, sym, ap, List, ℕ}
use Rattle.base_lists.specs.List.{part}
use Rattle.base_bits.specs.Bits.{union_at}
use Rattle.graph.specs.Net.{forward_targets, backward_targets, driven, driving}
use Rattle.graph_neighbours.specs.Lookup.{neighbours_in}
use Rattle.session_strike.specs.Moves.{beyond, moves_in}
use Rattle.session_strike.proofs.Looking.{next-unions, next-none}
use Rattle.session_strike.proofs.next_set.Goals as goal

pub returns-then-set-eq0 : goal.returns-then-set-eq0
returns-then-set-eq0 c =
    sym (next-none c.args.masks.now _ c.args.sets.now c.args.v (sym c.set_at-set.ensures ∙ c.if-set-eq0.true))

pub returns : goal.returns
unfolding part neighbours_in moves_in driven driving
returns c =
    next-unions c.args.masks.now (moves_in c.args.offsets.now c.args.numbers.now c.args.ends.now) c.args.sets.now c.args.v
    (c.reach-f.ensures ∙ ap (λ (l : List ℕ). union_at c.args.sets.now (beyond (forward_targets c.args.ends.now) l)) c.links_of.ensures)
    (c.reach-b.ensures ∙ ap (λ (l : List ℕ). union_at c.args.sets.now (beyond (backward_targets c.args.ends.now) l)) c.links_of-2.ensures)
    c.set_at-set.ensures c.parts_left.ensures
