-- `call_convert::convert_circuit` meets its contract: a package would be lost, or what writing leaves is the answer. Assumes nothing.
use Rattle.base_lists.specs.Kit.{◌∙◌, sym}
use Rattle.call_convert.proofs.Converting.{on-lost, on-written}
use Rattle.call_convert.proofs.convert_circuit.Goals as goal

pub returns-then-loses : goal.returns-then-loses
returns-then-loses c = rw c.refusal.ensures (on-lost _ _ _ _ _ _ _ (sym c.loses.ensures ∙ c.if-loses.true))

pub returns : goal.returns
returns c = on-written _ _ _ _ _ _ _ (sym c.loses.ensures ∙ c.if-loses.false) c.requires _ _ c.write.ensures
