-- `session_strike::mark_beside` meets its contract. Assumes nothing.
use Rattle.base_lists.specs.Kit.{◌∙◌, ap, ap₂, List, ℕ}
use Rattle.base_lists.specs.List.{part}
use Rattle.graph.specs.Net.{forward_targets, backward_targets, driven, driving}
use Rattle.graph_neighbours.specs.Lookup.{neighbours_in}
use Rattle.session_strike.specs.Moves.{beyond, moves_in, mark_all, mark_beside}
use Rattle.session_strike.proofs.mark_beside.Goals as goal

pub returns : goal.returns
unfolding part neighbours_in moves_in driven driving mark_beside
returns c =
    c.mark_ends-2.ensures
    ∙ ap₂ (λ (m l : List ℕ). mark_all c.args.n m l)
    (c.mark_ends.ensures ∙ ap (λ (l : List ℕ). mark_all c.args.n c.args.marks.now (beyond (forward_targets c.args.ends.now) l)) c.links_of.ensures)
    (ap (beyond (backward_targets c.args.ends.now)) c.links_of-2.ensures)
