-- `bounded_strike::round::count` meets its contract: the sizes of the sets, summed, are fewer than 2 ^ 32. Assumes nothing.
use Rattle.base_lists.specs.Kit.{◌∙◌, arith, rules}
use Rattle.std.proofs.lemmas.Iterator.{YieldsList-from_slice, YieldsList-from_map}
use Rattle.std.proofs.lemmas.Iterator.Consumers.{sum_by_from_yields_List, fits_by_from_yields_list}
use Rattle.base_bits.specs.Bits.{size_of}
use Rattle.table.proofs.Pairs.{pairs-le}
use Rattle.bounded_strike.proofs.Pairs.{sum_by-pairs}
use Rattle.bounded_strike.proofs.round.count.Goals as goal

pub sum-requires-clause-fits : goal.sum-requires-clause-fits
sum-requires-clause-fits c =
    fits_by_from_yields_list size_of c.args.table.now c.map.result _
    (YieldsList-from_map _ size_of (YieldsList-from_slice c.args.table.now cc) c.map.ensures.closure (λ x r q k. search rules))
    (omega (arith, sum_by-pairs c.args.table.now, pairs-le c.args.table.now, c.requires))

pub returns : goal.returns
returns c =
    sum_by_from_yields_List size_of c.args.table.now c.map.result _ c.sum.ensures.ran
    (YieldsList-from_map _ size_of (YieldsList-from_slice c.args.table.now cc) c.map.ensures.closure (λ x r q k. search rules))
    ∙ sum_by-pairs c.args.table.now
