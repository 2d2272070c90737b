-- `table_largest::settle` meets its contract. The loop's invariant: `table` is the table after `rounds` rounds, each of which struck a pair; the
-- nodes that change are listed, each with its next set; and nothing is marked. The measure is how many pairs there are, which falls with each
-- round. Assumes nothing.
use Rattle.std.specs.Prelude.{◌≡◌, ◌≤◌, ◌<◌}
use Rattle.base_lists.specs.Kit.{◌∙◌, sym, ap, ℕ, length, take, replicate, length-replicate, length-take-le, arith}
use Rattle.base_lists.specs.List.{part}
use Rattle.graph.specs.Bfs.{state_of}
use Rattle.graph.specs.Search.{far}
use Rattle.graph.proofs.Net.{net-few}
use Rattle.table.specs.Prepared.{tables}
use Rattle.table_largest.specs.Rounds.{Due}
use Rattle.table_largest.proofs.Rounds.{noticed-few, noticed-below, new-long, new-ready, round-start, round-count, round-less, round-next, round-last, woken-due, woken-clean}
use Rattle.table_largest.proofs.Waking.{marks-searching}
use Rattle.table_largest.proofs.settle.Goals as goal
use Rattle.table_largest.proofs.settle.Goals.{After-list_beside-k, After-write-kept, At-loop-n}

pub changes-n-requires : goal.changes-n-requires
unfolding part
changes-n-requires c =
    record {
      one_way_value = c.all_empty-one_way.ensures;
      ready = c.requires.due.ready;
      below = c.requires.due.below;
      todo_in_bounds = (omega (arith, c.requires.due.few, c.requires.changed_len.0), omega (arith, c.requires.due.few, c.requires.changed_len.1));
    }

pub loop-n-init : goal.loop-n-init
loop-n-init c = (
  round-start c.requires.started_value,
  record { todo = _; due = c.requires.due; pending = c.changes-n.ensures },
  c.requires.marks_value.0,
)

-- the nodes that change fit their lists
room : (loop : At-loop-n) → (loop.loop-n.n ≤ length loop.loop-n.changed) × (loop.loop-n.n ≤ length loop.loop-n.new)
room loop =
    (omega (arith, noticed-few loop.loop-n.invariant.0 loop.loop-n.invariant.1, loop.loop-n.auto.table, (loop.loop-n.auto.changed ∙ loop.changes-n.auto.changed ∙ loop.requires.changed_len.0)), omega (arith, noticed-few loop.loop-n.invariant.0 loop.loop-n.invariant.1, loop.loop-n.auto.table, (loop.loop-n.auto.new ∙ loop.changes-n.auto.next ∙ loop.requires.changed_len.1)))

-- the marks go with the table as it is
clean : (loop : At-loop-n) → loop.loop-n.marks ≡ replicate (length loop.loop-n.table) far
clean loop = rw loop.loop-n.auto.table loop.loop-n.invariant.2

pub slice_bounds-write-end : goal.slice_bounds-write-end
slice_bounds-write-end c = (room (goal.at.slice_bounds-write-end c).At-loop-n).0

pub slice_bounds-write-end-in-loop-n : goal.slice_bounds-write-end-in-loop-n
slice_bounds-write-end-in-loop-n c = sym (length-take-le _ _ (room (goal.at.slice_bounds-write-end-in-loop-n c).At-loop-n).0)

pub slice_bounds-write-end-in-loop-n-2 : goal.slice_bounds-write-end-in-loop-n-2
slice_bounds-write-end-in-loop-n-2 c = (room (goal.at.slice_bounds-write-end-in-loop-n-2 c).At-loop-n).1

pub slice_bounds-write-end-in-loop-n-3 : goal.slice_bounds-write-end-in-loop-n-3
slice_bounds-write-end-in-loop-n-3 c = sym (length-take-le _ _ (room (goal.at.slice_bounds-write-end-in-loop-n-3 c).At-loop-n).1)

pub write-kept-requires : goal.write-kept-requires
write-kept-requires c =
    record {
      sets_len = (length-take-le _ _ (room (goal.at.write-kept-requires c).At-loop-n).1 ∙ sym (length-take-le _ _ (room (goal.at.write-kept-requires c).At-loop-n).0), noticed-below c.loop-n.invariant.0 c.loop-n.invariant.1);
      started_value = c.loop-n.invariant.0.count;
      table_len_bound = omega (arith, net-few c.loop-n.invariant.1.due.ready.net);
    }

changed-some : (c : After-write-kept) → c.loop-n.n ≡ 0 → ⊥
changed-some c e = omega (arith, c.loop-n-test.true)

fewer : (c : After-write-kept) → c.write-kept.result < c.loop-n.kept
fewer c =
    round-less c.loop-n.invariant.0 c.loop-n.invariant.1 c.write-kept.ensures ((c.loop-n.auto.changed ∙ c.changes-n.auto.changed ∙ c.requires.changed_len.0) ∙ sym c.loop-n.auto.table) (changed-some c)

pub overflow_add-rounds : goal.overflow_add-rounds
overflow_add-rounds c =
    omega (arith, round-count c.loop-n.invariant.0, fewer (goal.at.overflow_add-rounds c).After-write-kept, c.requires.started_value, c.ranges.started.fits)

pub slice_bounds-list_beside-end : goal.slice_bounds-list_beside-end
slice_bounds-list_beside-end c = (room (goal.at.slice_bounds-list_beside-end c).At-loop-n).0

pub slice_bounds-list_beside-end-in-loop-n : goal.slice_bounds-list_beside-end-in-loop-n
slice_bounds-list_beside-end-in-loop-n c = sym (length-take-le _ _ (room (goal.at.slice_bounds-list_beside-end-in-loop-n c).At-loop-n).0)

pub list_beside-k-requires : goal.list_beside-k-requires
list_beside-k-requires c =
    let long = new-long c.loop-n.invariant.0 c.loop-n.invariant.1 c.write-kept.ensures in record {
      searching = marks-searching c.loop-n.invariant.2 (c.loop-n.auto.todo ∙ c.requires.marks_value.1);
      net = (new-ready c.loop-n.invariant.0 c.loop-n.invariant.1 c.write-kept.ensures).net;
      sets_len = long ∙ c.loop-n.auto.table ∙ sym (ap length c.loop-n.invariant.2 ∙ length-replicate _ far);
      below = rw long (noticed-below c.loop-n.invariant.0 c.loop-n.invariant.1);
    }

pub slice_bounds-list-end : goal.slice_bounds-list-end
slice_bounds-list-end c = c.list_beside-k.ensures.kept.within

pub slice_bounds-list-end-in-loop-n : goal.slice_bounds-list-end-in-loop-n
slice_bounds-list-end-in-loop-n c = sym (length-take-le _ _ c.list_beside-k.ensures.kept.within)

-- what lies beside the nodes that changed is to be looked at
due : (c : After-list_beside-k) →
    Due (tables c.args.masks.now c.args.offsets.now c.args.targets.now) c.write-kept.new.table
    (take c.list_beside-k.result c.list_beside-k.new.todo)
due c =
    let clean : c.loop-n.marks ≡ replicate (length c.loop-n.table) far = rw c.loop-n.auto.table c.loop-n.invariant.2 in
    woken-due c.loop-n.invariant.0 c.loop-n.invariant.1 c.write-kept.ensures c.loop-n.todo clean c.list_beside-k.ensures
    (c.list_beside-k.auto.marks ∙ ap length clean ∙ length-replicate _ far)

pub changes-n-requires-in-loop-n : goal.changes-n-requires-in-loop-n
unfolding part
changes-n-requires-in-loop-n c =
    let long = new-long c.loop-n.invariant.0 c.loop-n.invariant.1 c.write-kept.ensures in
    let d = due (goal.at.changes-n-requires-in-loop-n c).After-list_beside-k in record {
      one_way_value = c.all_empty-one_way.ensures;
      ready = d.ready;
      below = d.below;
      todo_in_bounds = (omega (arith, d.few, long, c.loop-n.auto.table, (c.loop-n.auto.changed ∙ c.changes-n.auto.changed ∙ c.requires.changed_len.0)), omega (arith, d.few, long, c.loop-n.auto.table, (c.loop-n.auto.new ∙ c.changes-n.auto.next ∙ c.requires.changed_len.1)));
    }

pub unmark-requires : goal.unmark-requires
unfolding state_of
unmark-requires c = c.list_beside-k.ensures.kept.ready.inside

pub loop-n-smaller : goal.loop-n-smaller
loop-n-smaller c = fewer (goal.at.loop-n-smaller c).After-write-kept

pub loop-n-preserved : goal.loop-n-preserved
loop-n-preserved c = (
  round-next c.loop-n.invariant.0 c.loop-n.invariant.1 c.write-kept.ensures ((c.loop-n.auto.changed ∙ c.changes-n.auto.changed ∙ c.requires.changed_len.0) ∙ sym c.loop-n.auto.table) (changed-some (goal.at.loop-n-preserved c).After-write-kept),
  record { todo = _; due = due (goal.at.loop-n-preserved c).After-list_beside-k; pending = c.changes-n-in-loop-n.ensures },
  c.unmark.ensures
      ∙ woken-clean c.loop-n.invariant.0 c.loop-n.invariant.1 c.write-kept.ensures c.loop-n.todo (clean (goal.at.loop-n-preserved c).At-loop-n) c.list_beside-k.ensures
      ∙ ap (λ (n : ℕ). replicate n far) c.loop-n.auto.table,
)

pub returns : goal.returns
returns c =
    record {
      settled = round-last c.loop-n.invariant.0 c.loop-n.invariant.1 (omega arith);
      marks_unchanged = c.loop-n.invariant.2 ∙ sym c.requires.marks_value.0;
    }
