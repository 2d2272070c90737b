-- `table_largest::refine` meets its contract: the list of nodes has each node that changes, and what the rounds settle at is the end of the row.
-- Assumes nothing.
use Rattle.std.specs.Prelude.{◌≤◌}
use Rattle.base_lists.specs.Kit.{sym, length, length-take-le}
use Rattle.base_lists.proofs.Parts.{take-replicate}
use Rattle.graph.specs.Search.{far}
use Rattle.graph.proofs.Net.{net-of, net-few}
use Rattle.table.specs.Row.{problem_by}
use Rattle.table_largest.proofs.Rounds.{first-due, settled-rested}
use Rattle.table_largest.proofs.refine.Goals as goal
use Rattle.table_largest.proofs.refine.Goals.{Start}

-- there are no more nodes than the scratch has entries
few : (s : Start) → length s.args.table.now ≤ 512
unfolding problem_by
few s = rw s.requires.tables_known.begins.long (net-few (net-of s.requires.tables_known.prepared.net))

pub slice_bounds-marks-end : goal.slice_bounds-marks-end
slice_bounds-marks-end c = few (goal.at.slice_bounds-marks-end c).Start

pub slice_bounds-settle-end : goal.slice_bounds-settle-end
slice_bounds-settle-end c = sym (length-take-le _ _ (few (goal.at.slice_bounds-settle-end c).Start))

pub slice_bounds-todo-end : goal.slice_bounds-todo-end
slice_bounds-todo-end c = few (goal.at.slice_bounds-todo-end c).Start

pub slice_bounds-settle-end-2 : goal.slice_bounds-settle-end-2
slice_bounds-settle-end-2 c = sym (length-take-le _ _ (few (goal.at.slice_bounds-settle-end-2 c).Start))

pub slice_bounds-changed-end : goal.slice_bounds-changed-end
slice_bounds-changed-end c = few (goal.at.slice_bounds-changed-end c).Start

pub slice_bounds-settle-end-3 : goal.slice_bounds-settle-end-3
slice_bounds-settle-end-3 c = sym (length-take-le _ _ (few (goal.at.slice_bounds-settle-end-3 c).Start))

pub settle-requires : goal.settle-requires
settle-requires c =
    let h = few (goal.at.settle-requires c).Start in record {
      due = first-due c.requires.tables_known.prepared c.args.nodes.now c.requires.tables_known.begins c.requires.node_list;
      started_value = c.requires.started_value;
      marks_value = (take-replicate _ 512 far h, length-take-le _ _ h);
      changed_len = (length-take-le _ _ h, c.requires.spare_len);
    }

pub returns : goal.returns
returns c =
    λ ways pattern host p b. settled-rested p c.args.nodes.now b c.settle.ensures.settled
