-- `table_strike::all_empty` meets its contract. Assumes nothing.
use Rattle.base_lists.specs.Kit.{◌∙◌, eqb, rules}
use Rattle.std.proofs.lemmas.Iterator.{YieldsList-from_slice}
use Rattle.std.proofs.lemmas.Iterator.Search.{all_from_yields_List}
use borrow.Author.Tests.{tests}
use Rattle.table_strike.specs.Strike.{all_empty}
use Rattle.table_strike.proofs.Survivors.{list_all-is-all}
use Rattle.table_strike.proofs.all_empty.Goals as goal

pub returns : goal.returns
unfolding all_empty
returns c =
    all_from_yields_List (λ m. eqb m 0) _ _ _ c.all.ensures.ran (YieldsList-from_slice c.args.masks.now cc) (λ x b q k. search (rules, tests))
    ∙ list_all-is-all (λ m. eqb m 0) c.args.masks.now
