-- `heronditch::whole::heronditch_match` meets its contract: the third edition, or another. Assumes nothing.
use Rattle.base_lists.specs.Kit.{sym, ap, ◌∙◌}
use Rattle.heronditch.specs.Host.{host_match, matching_told}
use Rattle.heronditch.proofs.whole.heronditch_match.Goals as goal

pub returns-then-is_third : goal.returns-then-is_third
unfolding host_match matching_told
returns-then-is_third c =
    rw (sym c.is_third.ensures ∙ c.if-is_third.true) c.heronditch_match_third.ensures

pub returns : goal.returns
unfolding host_match matching_told
returns c =
    rw (
      c.of_match.ensures,
      ← c.editions_of-editions.ensures.0,
      ← c.editions_of-editions.ensures.1,
      sym c.is_third.ensures ∙ c.if-is_third.false,
    )
    (ap host_match c.match_table.ensures)
