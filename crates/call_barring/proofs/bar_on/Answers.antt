-- `call_barring::bar_on` meets its contract: the centre is outside, there are too few bytes, or the kept links are
-- found. Assumes nothing.
use Rattle.base_lists.specs.Kit.{arith}
use Rattle.call_barring.proofs.Finding.{on-centre, on-short, on-around}
use Rattle.call_barring.proofs.bar_on.Goals as goal

pub returns-then-nk-centre : goal.returns-then-nk-centre
returns-then-nk-centre c = on-centre _ _ _ _ _ c.if-nk-centre.true

pub returns-then-out-ps : goal.returns-then-out-ps
returns-then-out-ps c = on-short _ _ _ _ _ c.if-nk-centre.false c.if-out-ps.true

pub overflow_cast-around : goal.overflow_cast-around
overflow_cast-around c = omega (arith, c.if-nk-centre.false, c.requires.1.nodes)

pub bar_circuits-requires : goal.bar_circuits-requires
bar_circuits-requires c = record {
  bounded = c.requires;
  centre_in_bounds = c.if-nk-centre.false;
  part_starts_in_bounds = c.if-out-ps.false;
}

pub returns : goal.returns
returns c =
    on-around _ _ _ _ _ c.if-nk-centre.false c.if-out-ps.false c.bar_circuits.ensures
