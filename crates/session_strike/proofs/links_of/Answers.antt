-- `session_strike::links_of` meets its contract. Assumes nothing.
use Rattle.base_lists.specs.Kit.{◌∙◌}
use Rattle.base_lists.specs.List.{part}
use Rattle.session_strike.proofs.Entries.{halves-neighbours}
use Rattle.session_strike.proofs.links_of.Goals as goal

pub returns : goal.returns
unfolding part
returns c =
    c.neighbours.ensures ∙ halves-neighbours c.args.direction c.args.offsets.now c.args.numbers.now c.args.v
