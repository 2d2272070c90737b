-- `graph_search::advance` meets its contract. The loop's invariant: the search has gone on (proofs/Going) to the state that the tables stand for. The measure is how
-- many levels and how many nodes are left. Assumes nothing.
use Rattle.base_lists.specs.Kit.{◌∙◌, sym, arith}
use Rattle.graph.proofs.Net.{net-few}
use Rattle.graph_search.proofs.Going.{going-none, near, going-left, going-node, going_next, going_more, going-level, going_end, going-enough}
use Rattle.graph_search.proofs.advance.Goals as goal

pub loop-tail-init : goal.loop-tail-init
loop-tail-init c = going-none (net-few c.requires.net) c.requires.searching c.requires.standing

pub returns-then-ended : goal.returns-then-ended
returns-then-ended c =
    record {
      searching_2 = c.loop-tail.invariant.kept;
      advanced = going_end c.loop-tail.invariant c.if-looked-level.true (sym c.ended.ensures ∙ c.if-ended.true) _;
    }

pub loop-tail-smaller-then-looked-level : goal.loop-tail-smaller-then-looked-level
loop-tail-smaller-then-looked-level c = omega (arith, going_more c.loop-tail.invariant c.if-looked-level.true (sym c.ended.ensures ∙ c.if-ended.false))

pub loop-tail-preserved-then-looked-level : goal.loop-tail-preserved-then-looked-level
loop-tail-preserved-then-looked-level c = going-level c.loop-tail.invariant c.if-looked-level.true (sym c.ended.ensures ∙ c.if-ended.false)

-- ---- a node of the level has not been looked from
pub expand-tail-requires : goal.expand-tail-requires
expand-tail-requires c =
    record {
      net = rw c.loop-tail.invariant.long c.requires.net;
      searching = c.loop-tail.invariant.kept;
      v_in_bounds = going-node c.loop-tail.invariant (going-left c.loop-tail.invariant c.if-looked-level.false);
      d_lt_far = omega (arith, near c.loop-tail.invariant);
    }

pub loop-tail-preserved : goal.loop-tail-preserved
loop-tail-preserved c =
    going_next c.loop-tail.invariant (going-left c.loop-tail.invariant c.if-looked-level.false) c.expand-tail.ensures c.expand-tail.auto.dist c.expand-tail.auto.queue

-- ---- there are enough
pub returns : goal.returns
returns c = record {
  searching_2 = c.loop-tail.invariant.kept;
  advanced = going-enough c.loop-tail.invariant _ c.loop-tail-test.false;
}

pub shape_of-dist-then-ended : goal.shape_of-dist-then-ended
shape_of-dist-then-ended c = c.loop-tail.invariant.long

pub shape_of-queue-then-ended : goal.shape_of-queue-then-ended
shape_of-queue-then-ended c = c.loop-tail.invariant.room

pub overflow_add-depth : goal.overflow_add-depth
overflow_add-depth c = omega (arith, near c.loop-tail.invariant)

pub offset_bounds-queue-looked : goal.offset_bounds-queue-looked
offset_bounds-queue-looked c = omega (arith, near c.loop-tail.invariant, c.if-looked-level.false)

pub bounds-queue-looked : goal.bounds-queue-looked
bounds-queue-looked c = omega (arith, near c.loop-tail.invariant, c.loop-tail.invariant.room, c.if-looked-level.false)

pub overflow_cast-v : goal.overflow_cast-v
overflow_cast-v c = omega (arith, c.type_inv.queue c.loop-tail.looked)

pub overflow_add-looked : goal.overflow_add-looked
overflow_add-looked c = omega (arith, near c.loop-tail.invariant, c.if-looked-level.false)

pub loop-tail-smaller : goal.loop-tail-smaller
loop-tail-smaller c = omega (arith, near c.loop-tail.invariant, c.if-looked-level.false)

pub shape_of-dist : goal.shape_of-dist
shape_of-dist c = c.loop-tail.invariant.long

pub shape_of-queue : goal.shape_of-queue
shape_of-queue c = c.loop-tail.invariant.room
