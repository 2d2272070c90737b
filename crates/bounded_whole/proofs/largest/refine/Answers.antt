-- `bounded_whole::largest::refine` meets its contract, as table_largest::refine does. The loop's invariant: `table` is the table after `rounds`
-- rounds, each of which struck a pair, and has `kept` pairs. The measure is `kept`, which falls with each round. Assumes nothing.
use Rattle.std.specs.Prelude.{◌≡◌, ◌<◌, ◌+◌}
use Rattle.base_lists.specs.Kit.{◌∙◌, sym, length, arith}
use Rattle.table.specs.Prepared.{tables}
use Rattle.bounded_strike.specs.Round.{Turn}
use Rattle.bounded_whole.proofs.Rounds.{first-turn, turn-count, turn-less, turn-next, turn_last, turn_end}
use Rattle.bounded_whole.proofs.largest.refine.Goals as goal
use Rattle.bounded_whole.proofs.largest.refine.Goals.{At-loop-kept, Else-kept-left, Else-left-kept}

pub loop-kept-init : goal.loop-kept-init
loop-kept-init c = first-turn c.requires.bounded_ready c.requires.started_value

-- ---- lengths
spare-long : (loop : At-loop-kept) → length loop.loop-kept.spare ≡ length loop.loop-kept.table
spare-long loop = loop.loop-kept.auto.spare ∙ loop.requires.spare_len.0 ∙ sym loop.loop-kept.auto.table

layer-long : (loop : At-loop-kept) → length loop.loop-kept.layer ≡ length loop.loop-kept.table
layer-long loop = loop.loop-kept.auto.layer ∙ loop.requires.spare_len.1 ∙ sym loop.loop-kept.auto.table

next-long : (loop : At-loop-kept) → length loop.loop-kept.next ≡ length loop.loop-kept.table
next-long loop = loop.loop-kept.auto.next ∙ loop.requires.spare_len.2 ∙ sym loop.loop-kept.auto.table

pub strike-left-requires : goal.strike-left-requires
strike-left-requires c =
    record {
      bounded_ready = c.loop-kept.invariant.ready;
      layer_len = (layer-long (goal.at.strike-left-requires c).At-loop-kept, next-long (goal.at.strike-left-requires c).At-loop-kept, spare-long (goal.at.strike-left-requires c).At-loop-kept);
    }

pub returns-then-left-kept : goal.returns-then-left-kept
returns-then-left-kept c =
    turn_last c.loop-kept.invariant c.strike-left.ensures.0 c.strike-left.ensures.1 c.if-left-kept.true

fewer : (c : Else-left-kept) → c.strike-left.result < c.loop-kept.kept
fewer c = turn-less c.loop-kept.invariant c.strike-left.ensures.0 c.strike-left.ensures.1 c.if-left-kept.false

turn : (c : Else-left-kept) →
    Turn (tables c.args.masks.now c.args.offsets.now c.args.targets.now) c.args.top c.args.table.now c.strike-left.new.new c.strike-left.result (c.loop-kept.rounds + 1)
turn c = turn-next c.loop-kept.invariant c.strike-left.ensures.0 c.strike-left.ensures.1 c.if-left-kept.false

written-long : (c : Else-left-kept) → length c.strike-left.new.new ≡ length c.loop-kept.table
written-long c = c.strike-left.auto.new ∙ c.loop-kept.auto.spare ∙ c.requires.spare_len.0 ∙ sym c.loop-kept.auto.table

pub overflow_add-rounds : goal.overflow_add-rounds
overflow_add-rounds c =
    omega (arith, turn-count c.loop-kept.invariant, fewer (goal.at.overflow_add-rounds c).Else-left-kept, c.requires.started_value, c.ranges.top)

pub strike-kept-requires : goal.strike-kept-requires
strike-kept-requires c =
    record {
      bounded_ready = (turn (goal.at.strike-kept-requires c).Else-left-kept).ready;
      layer_len = (
        c.strike-left.auto.layer ∙ layer-long (goal.at.strike-kept-requires c).At-loop-kept ∙ sym (written-long (goal.at.strike-kept-requires c).Else-left-kept),
        c.strike-left.auto.next ∙ next-long (goal.at.strike-kept-requires c).At-loop-kept ∙ sym (written-long (goal.at.strike-kept-requires c).Else-left-kept),
        sym (written-long (goal.at.strike-kept-requires c).Else-left-kept),
      );
    }

pub returns-then-kept-left : goal.returns-then-kept-left
returns-then-kept-left c =
    turn_end (turn (goal.at.returns-then-kept-left c).Else-left-kept) c.strike-kept.ensures.0 c.strike-kept.ensures.1 c.if-kept-left.true

fewer-2 : (c : Else-kept-left) → c.strike-kept.result < c.strike-left.result
fewer-2 c =
    turn-less (turn-next c.loop-kept.invariant c.strike-left.ensures.0 c.strike-left.ensures.1 c.if-left-kept.false) c.strike-kept.ensures.0 c.strike-kept.ensures.1 c.if-kept-left.false

pub overflow_add-rounds-in-loop-kept : goal.overflow_add-rounds-in-loop-kept
overflow_add-rounds-in-loop-kept c =
    omega (arith, turn-count (turn (goal.at.overflow_add-rounds-in-loop-kept c).Else-left-kept), fewer-2 (goal.at.overflow_add-rounds-in-loop-kept c).Else-kept-left, c.requires.started_value, c.ranges.top)

pub loop-kept-smaller : goal.loop-kept-smaller
loop-kept-smaller c = omega (arith, fewer (goal.at.loop-kept-smaller c).Else-left-kept, fewer-2 (goal.at.loop-kept-smaller c).Else-kept-left)

pub loop-kept-preserved : goal.loop-kept-preserved
loop-kept-preserved c =
    turn-next (turn (goal.at.loop-kept-preserved c).Else-left-kept) c.strike-kept.ensures.0 c.strike-kept.ensures.1 c.if-kept-left.false
