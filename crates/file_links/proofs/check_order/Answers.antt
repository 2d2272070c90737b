-- `file_links::check_order` meets its contract: each return rewrites with the tests that led there. Assumes nothing.
use Rattle.std.specs.Prelude.{◌≡◌}
use Rattle.base_lists.specs.Kit.{◌∙◌, sym, arith}
use Rattle.file_format.specs.Links.{rising}
use Rattle.file_format.specs.Refusals.{turned, by_number}
use Rattle.file_format.specs.Reply.{verdict_of}
use Rattle.file_format.proofs.Packed.{numbers-rise}
use Rattle.file_format.proofs.Refusals.{order-starts, order-ends, order-falls, order-rises}
use Rattle.file_links.proofs.check_order.Goals as goal
use Rattle.file_links.proofs.check_order.Goals.{After-links_rise}

pub returns-then-not-all_below : goal.returns-then-not-all_below
unfolding verdict_of by_number turned
returns-then-not-all_below c = rw (c.refusal.ensures, order-starts _ _ _ (sym c.all_below.ensures ∙ c.if-not-all_below.true))

pub returns-then-not-all_below-2 : goal.returns-then-not-all_below-2
unfolding verdict_of by_number turned
returns-then-not-all_below-2 c =
    rw (c.refusal-then-not-all_below-2.ensures, order-ends _ _ _ (sym c.all_below.ensures ∙ c.if-not-all_below.false) (sym c.all_below-2.ensures ∙ c.if-not-all_below-2.true))

-- what the numbers say, the links say: an end is of 16 bits
by-numbers : (c : After-links_rise) → c.links_rise.result ≡ rising c.args.starts.now c.args.ends.now
by-numbers c = c.links_rise.ensures ∙ numbers-rise _ _ (λ i. omega (arith, c.type_inv.ends i))

pub returns-then-not-links_rise : goal.returns-then-not-links_rise
unfolding verdict_of by_number turned
returns-then-not-links_rise c =
    rw (
      c.refusal-then-not-links_rise.ensures,
      order-falls _ _ _ (sym c.all_below.ensures ∙ c.if-not-all_below.false) (sym c.all_below-2.ensures ∙ c.if-not-all_below-2.false)
          (sym (by-numbers (goal.at.returns-then-not-links_rise c).After-links_rise) ∙ c.if-not-links_rise.true),
    )

pub returns : goal.returns
unfolding verdict_of by_number
returns c =
    rw
    (order-rises _ _ _ (sym c.all_below.ensures ∙ c.if-not-all_below.false) (sym c.all_below-2.ensures ∙ c.if-not-all_below-2.false)
    (sym (by-numbers (goal.at.returns c).After-links_rise) ∙ c.if-not-links_rise.false))
