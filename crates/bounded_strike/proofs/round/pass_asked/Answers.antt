-- `bounded_strike::round::pass_asked` meets its contract. Assumes nothing.
use Rattle.base_lists.specs.Kit.{◌∙◌, sym}
use Rattle.bounded_strike.proofs.Unasked.{pass-unasked}
use Rattle.bounded_strike.proofs.round.pass_asked.Goals as goal

-- the sets are numbers of 32 bits, as they stand in the slice
pub returns-then-all_empty : goal.returns-then-all_empty
returns-then-all_empty c =
    pass-unasked _ c.args.masks.now c.args.layer.now c.args.new.now c.requires.0
    (sym c.all_empty.ensures ∙ c.if-all_empty.true) (λ v. (c.type_inv.new v).fits)
