-- `barring_find::bar_circuits` meets its contract: the tables are prepared, the ball is listed, and in it the kept links are found. Assumes nothing.
use Rattle.std.specs.Prelude.{◌≡◌, ◌++◌, ◌≤◌}
use Rattle.base_lists.specs.Kit.{◌∙◌, sym, List, ℕ, length, take, length-take-le, arith, rules}
use Rattle.base_lists.proofs.Parts.{length-append-le, length-append-room, length-take-append}
use Rattle.graph.specs.Circuit.{circuit}
use Rattle.file_format.proofs.Accepted.{bounded-starts, bounded-ends}
use Rattle.barring_find.specs.Ball.{Netted, Listed}
use Rattle.barring_find.specs.Trial.{Tried}
use Rattle.barring_find.proofs.Netted.{bounded-netted}
use Rattle.barring_find.proofs.Around.{listed_tried}
use Rattle.barring_find.proofs.bar_circuits.Goals as goal
use Rattle.barring_find.proofs.bar_circuits.Goals.{After-first_in_ball-k, After-neighbour_tables, Start}

pub neighbour_tables-requires : goal.neighbour_tables-requires
neighbour_tables-requires c =
    record {
      net_room = search rules;
      n_bound = c.requires.bounded.1.nodes;
      starts_len = (c.requires.bounded.1.parallel, c.requires.bounded.1.links);
      t = (bounded-starts c.requires.bounded.1, bounded-ends c.requires.bounded.1);
    }

-- no more nodes than the tables have room for
most : (s : Start) → length s.args.node_labels.now ≤ 512
most s = s.requires.bounded.1.nodes

pub slice_bounds-first_in_ball-end-3 : goal.slice_bounds-first_in_ball-end-3
slice_bounds-first_in_ball-end-3 c = sym (length-take-le _ _ (most (goal.at.slice_bounds-first_in_ball-end-3 c).Start))

pub slice_bounds-first_in_ball-end-4 : goal.slice_bounds-first_in_ball-end-4
slice_bounds-first_in_ball-end-4 c = sym (length-take-le _ _ (most (goal.at.slice_bounds-first_in_ball-end-4 c).Start))

pub slice_bounds-first_in_ball-end-5 : goal.slice_bounds-first_in_ball-end-5
slice_bounds-first_in_ball-end-5 c = sym (length-take-le _ _ (most (goal.at.slice_bounds-first_in_ball-end-5 c).Start))

-- the tables are those of the board
made : (c : After-neighbour_tables) →
    Netted (circuit c.args.node_labels.now c.args.node_starts.now c.args.node_ends.now) c.neighbour_tables.new.offsets c.neighbour_tables.new.targets
made c = bounded-netted c.requires.bounded.1 c.neighbour_tables.ensures

pub first_in_ball-k-requires : goal.first_in_ball-k-requires
first_in_ball-k-requires c =
    record {
      part_labels_len_bound = (c.requires.bounded.0.nodes, record { node_starts = _; node_ends = _; netted = made (goal.at.first_in_ball-k-requires c).After-neighbour_tables });
      centre_in_bounds = c.requires.centre_in_bounds;
      dist_len = (length-take-le _ _ (most (goal.at.first_in_ball-k-requires c).Start), length-take-le _ _ (most (goal.at.first_in_ball-k-requires c).Start), length-take-le _ _ (most (goal.at.first_in_ball-k-requires c).Start));
    }

listed : (c : After-first_in_ball-k) →
    Listed c.args.part_labels.now (circuit c.args.node_labels.now c.args.node_starts.now c.args.node_ends.now) c.args.around c.first_in_ball-k.new.queue
    c.first_in_ball-k.new.first c.first_in_ball-k.result
listed c = c.first_in_ball-k.ensures _ _ ((let fact : Netted (circuit c.args.node_labels.now c.args.node_starts.now c.args.node_ends.now) c.neighbour_tables.new.offsets c.neighbour_tables.new.targets = bounded-netted c.requires.bounded.1 c.neighbour_tables.ensures in fact))

sized : (c : After-first_in_ball-k) → length c.first_in_ball-k.new.first ≡ length c.args.node_labels.now
sized c = c.first_in_ball-k.auto.first ∙ length-take-le _ _ ((let fact : length c.args.node_labels.now ≤ 512 = c.requires.bounded.1.nodes in fact))

trial : (c : After-first_in_ball-k) (past after : List ℕ) →
    Tried (circuit c.args.part_labels.now c.args.part_starts.now c.args.part_ends.now) (circuit c.args.node_labels.now c.args.node_starts.now c.args.node_ends.now)
    c.neighbour_tables.new.offsets c.neighbour_tables.new.targets c.args.around.centre c.args.around.radius (take c.first_in_ball-k.result (c.first_in_ball-k.new.queue ++ past))
    (take (length c.args.node_labels.now) (c.first_in_ball-k.new.first ++ after))
trial c past after = listed_tried c.requires.bounded.0 c.requires.bounded.1 c.neighbour_tables.ensures c.requires.centre_in_bounds (listed c) (sized c) past after

pub slice_bounds-queue-end-2 : goal.slice_bounds-queue-end-2
slice_bounds-queue-end-2 c = length-append-le _ c.first_in_ball-k.new.queue _ (listed (goal.at.slice_bounds-queue-end-2 c).After-first_in_ball-k).short

pub slice_bounds-least_in_ball-end : goal.slice_bounds-least_in_ball-end
slice_bounds-least_in_ball-end c = sym (length-take-le _ _ (length-append-le _ c.first_in_ball-k.new.queue _ (listed (goal.at.slice_bounds-least_in_ball-end c).After-first_in_ball-k).short))

pub slice_bounds-first-end-2 : goal.slice_bounds-first-end-2
slice_bounds-first-end-2 c = length-append-room _ c.first_in_ball-k.new.first _ (sized (goal.at.slice_bounds-first-end-2 c).After-first_in_ball-k)

pub slice_bounds-least_in_ball-end-4 : goal.slice_bounds-least_in_ball-end-4
slice_bounds-least_in_ball-end-4 c = length-take-append _ c.first_in_ball-k.new.first _ (sized (goal.at.slice_bounds-least_in_ball-end-4 c).After-first_in_ball-k)

pub overflow_cast-c : goal.overflow_cast-c
overflow_cast-c c = omega (arith, c.requires.centre_in_bounds, most (goal.at.overflow_cast-c c).Start)

pub least_in_ball-requires : goal.least_in_ball-requires
least_in_ball-requires c =
    record {
      some_tried = record { part_labels = _; board = _; radius = _; tried = trial (goal.at.least_in_ball-requires c).After-first_in_ball-k _ _ };
      starts_in_bounds = c.requires.part_starts_in_bounds;
    }

pub returns : goal.returns
returns c = c.least_in_ball.ensures _ _ _ (trial (goal.at.returns c).After-first_in_ball-k _ _)
