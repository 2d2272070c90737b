-- `graph_gather::search_until` meets its contract. The loop's invariant: the search has gone on from the centre (graph_search/proofs/Going) to the state that the
-- tables stand for, and so many of the nodes reached have the number. The measure is how many nodes are not reached. Assumes nothing.
use Rattle.std.specs.Prelude.{◌≡◌, ◌≤◌}
use Rattle.base_lists.specs.Kit.{◌∙◌, sym, ap, List, ℕ, length, get_or, take, length-take-le, take-take, arith, eq-eqb}
use Rattle.graph.specs.Bfs.{SearchState, start, state_of}
use Rattle.graph.proofs.BfsSteps.{tail-le, reached-length}
use Rattle.graph.proofs.Net.{net-few}
use Rattle.graph_search.proofs.Onward.{first-le}
use Rattle.graph_search.proofs.Going.{going-centre, near, going-further, until-enough, until-all}
use Rattle.graph_gather.specs.Having.{having, numbered}
use Rattle.graph_gather.proofs.search_until.Goals as goal
use Rattle.graph_gather.proofs.search_until.Goals.{After-advance-to, After-count_from-count, At-loop-count}

-- the centre, which alone is reached, has the number
one : (n c x : ℕ) (numbers dist queue : List ℕ) → get_or numbers c 0 ≡ x → state_of dist queue 1 ≡ start n c → ◌≡◌ {A = ℕ} 1 (length (having (numbered numbers x) (take 1 queue)))
unfolding having start state_of
one n c x numbers dist queue q e = rw (ap (λ (s : SearchState). s.reached) e, eq-eqb (get_or numbers c 0) x q)

pub loop-count-init : goal.loop-count-init
loop-count-init c =
    let e = sym c.requires.dist_len.1 in (
      going-centre _ (rw e at (net-few c.requires.net)) (c.begin.auto.dist ∙ e) (c.begin.auto.queue ∙ sym c.requires.dist_len.0 ∙ e) (rw e at c.begin.ensures),
      one _ _ _ c.args.numbers.now _ _ c.requires.c_value.0 c.begin.ensures.state,
    )

-- ---- a turn: more nodes with the number are wanted
pub overflow_add-wanted : goal.overflow_add-wanted
overflow_add-wanted c = omega (arith, near c.loop-count.invariant.0, c.requires.c_value.1)

pub advance-to-requires : goal.advance-to-requires
advance-to-requires c =
    record {
      net = rw (c.loop-count.invariant.0.long ∙ c.requires.dist_len.1) c.requires.net;
      searching = c.loop-count.invariant.0.kept;
      standing = c.loop-count.invariant.0.gone.standing;
    }

pub returns-then-to-wanted : goal.returns-then-to-wanted
returns-then-to-wanted c =
    record {
      searching = c.advance-to.ensures.searching_2;
      until = rw (← c.requires.dist_len.1) (until-all c.loop-count.invariant.0 c.advance-to.ensures.advanced c.if-to-wanted.true);
    }

-- ---- there may be enough
-- what was reached stands where it stood
longer : (c : After-advance-to) → (c.loop-count.from.tail ≤ c.advance-to.result.tail) × (take c.loop-count.from.tail c.advance-to.new.queue ≡ take c.loop-count.from.tail c.loop-count.queue)
unfolding state_of
longer c =
    let before = reached-length _ _ _ c.loop-count.invariant.0.kept in
    let after = reached-length _ _ _ c.advance-to.ensures.searching_2 in
    let more : c.loop-count.from.tail ≤ c.advance-to.result.tail = omega (arith, first-le _ _ c.advance-to.ensures.advanced.longer, before, after) in
    (more, sym (take-take c.loop-count.from.tail c.advance-to.result.tail c.advance-to.new.queue more) ∙ (rw before at c.advance-to.ensures.advanced.longer))

pub count_from-count-requires : goal.count_from-count-requires
unfolding state_of
count_from-count-requires c =
    let size = length-take-le c.advance-to.result.tail c.advance-to.new.queue c.advance-to.ensures.searching_2.within in
    let (more, same) = longer (goal.at.count_from-count-requires c).After-advance-to in
    let e = c.advance-to.auto.dist ∙ c.loop-count.invariant.0.long in record {
      from_in_bounds = (omega (arith, size, more), omega (arith, size, tail-le _ _ _ c.advance-to.ensures.searching_2, e, near c.loop-count.invariant.0), rw e at c.advance-to.ensures.searching_2.ready.inside);
      count_value = c.loop-count.invariant.1 ∙ ap (λ (ns : List ℕ). length (having (numbered c.args.numbers.now c.args.x) ns)) (sym same ∙ sym (take-take c.loop-count.from.tail c.advance-to.result.tail c.advance-to.new.queue more));
    }

pub loop-count-preserved : goal.loop-count-preserved
loop-count-preserved c =
    (going-further c.loop-count.invariant.0 c.advance-to.auto.dist c.advance-to.auto.queue c.advance-to.ensures.searching_2 c.advance-to.ensures.advanced, c.count_from-count.ensures)

pub loop-count-smaller : goal.loop-count-smaller
loop-count-smaller c =
    omega (arith, near c.loop-count.invariant.0, near (loop-count-preserved (goal.at.loop-count-smaller c).After-count_from-count).0, c.if-to-wanted.false, c.loop-count-test.true)

-- ---- there is enough
pub returns : goal.returns
returns c =
    record {
      searching = c.loop-count.invariant.0.kept;
      until = rw (← c.requires.dist_len.1) (until-enough c.loop-count.invariant.0 (omega (arith, c.loop-count.invariant.1, c.loop-count-test.false)));
    }

-- the tables are as long as before
before : (c : At-loop-count) → (length c.loop-count.dist ≡ length c.args.dist.now) × (length c.loop-count.queue ≡ length c.args.queue.now)
before c = (c.loop-count.invariant.0.long ∙ c.requires.dist_len.1, c.loop-count.invariant.0.room ∙ c.requires.dist_len.1 ∙ c.requires.dist_len.0)

pub overflow_sub-wanted : goal.overflow_sub-wanted
overflow_sub-wanted c = omega (arith, c.loop-count-test.true)

pub shape_of-dist-then-to-wanted : goal.shape_of-dist-then-to-wanted
shape_of-dist-then-to-wanted c = c.advance-to.auto.dist ∙ (before (goal.at.shape_of-dist-then-to-wanted c).At-loop-count).0

pub shape_of-queue-then-to-wanted : goal.shape_of-queue-then-to-wanted
shape_of-queue-then-to-wanted c = c.advance-to.auto.queue ∙ (before (goal.at.shape_of-queue-then-to-wanted c).At-loop-count).1

pub slice_bounds-count_from-end : goal.slice_bounds-count_from-end
slice_bounds-count_from-end c = c.advance-to.ensures.searching_2.within

pub slice_bounds-count_from-end-in-loop-count : goal.slice_bounds-count_from-end-in-loop-count
slice_bounds-count_from-end-in-loop-count c = sym (length-take-le _ _ c.advance-to.ensures.searching_2.within)

pub shape_of-dist : goal.shape_of-dist
shape_of-dist c = (before (goal.at.shape_of-dist c).At-loop-count).0

pub shape_of-queue : goal.shape_of-queue
shape_of-queue c = (before (goal.at.shape_of-queue c).At-loop-count).1
