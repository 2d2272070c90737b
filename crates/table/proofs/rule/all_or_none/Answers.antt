-- `table::rule::all_or_none` meets its contract: the union of the sets says whether every part occurs. Assumes nothing.
use Rattle.std.specs.Prelude.{◌≡◌}
use Rattle.base_lists.specs.Kit.{◌∙◌, sym, ap}
use Rattle.base_bits.specs.Bits.{size_of}
use Rattle.table.specs.Union.{union_all}
use Rattle.table.proofs.AllParts.{ruled-all, ruled-none}
use Rattle.table.proofs.rule.all_or_none.Goals as goal
use Rattle.table.proofs.rule.all_or_none.Goals.{After-size}

-- how many parts the union has
sized : (c : After-size)
    → size_of (union_all c.args.table.now) ≡ c.size.result
sized c = ap size_of (sym c.occurring.ensures) ∙ sym c.size.ensures

-- the union of the sets has as many parts as the table
pub returns-then-size-parts : goal.returns-then-size-parts
returns-then-size-parts c =
    ruled-all _ c.requires.parts_bound _ c.requires.sets_fit _ (sized (goal.at.returns-then-size-parts c).After-size ∙ c.if-size-parts.true)

pub returns : goal.returns
returns c =
    ruled-none _ c.requires.parts_bound _ c.requires.sets_fit _ (λ e. c.if-size-parts.false (sym (sized (goal.at.returns c).After-size) ∙ e))
    c.fill.ensures c.none_kept.ensures
