-- `place_circuits::place_circuits` meets its contract: the place is found in the ball, and where there is one it is
-- marked, and the ball's distances are copied. Assumes nothing.
use Rattle.std.specs.Prelude.{◌++◌, ◌≤◌}
use Rattle.std.specs.Option.{is_some}
use Rattle.base_lists.specs.Kit.{◌∙◌, sym, ap, List, [], ℕ, length, get_or, take, drop, length-take-le, arith}
use Rattle.graph.specs.Circuit.{circuit}
use Rattle.file_format.specs.Circuit.{Drawn}
use Rattle.table.specs.Prepared.{tables, Prepared}
use Rattle.place.specs.Match.{place_links}
use Rattle.place.proofs.Find.{drawn-tabled, tabled-links}
use Rattle.place.proofs.Outcome.{around-none, around-some}
use Rattle.place_ball.specs.Ball.{PlacedIn}
use Rattle.place_circuits.proofs.Marked.{sets-room, place-room, cut-ready, cut-long, cut_list, cut-fit, marked-nodes, marked-table, marked-links, dist-room, copied}
use Rattle.place_circuits.proofs.place_circuits.Goals as goal
use Rattle.place_circuits.proofs.place_circuits.Goals.{After-find_in_ball-ball, Start}

-- a board has at most 512 nodes
few : (s : Start) → length s.args.node_labels.now ≤ 512
few s = s.requires.some_drawn.drawn.nodes.nodes

pub offset_bounds-offsets-n : goal.offset_bounds-offsets-n
offset_bounds-offsets-n c = omega (arith, few (goal.at.offset_bounds-offsets-n c).Start)

pub bounds-offsets-n : goal.bounds-offsets-n
bounds-offsets-n c =
    omega (arith, few (goal.at.bounds-offsets-n c).Start, c.requires.some_drawn.prepared.net.room.in_offsets)

pub overflow_cast-m : goal.overflow_cast-m
overflow_cast-m c = omega (arith, c.type_inv.offsets (length c.args.node_labels.now))

pub slice_bounds-dist-end : goal.slice_bounds-dist-end
slice_bounds-dist-end c = few (goal.at.slice_bounds-dist-end c).Start

pub slice_bounds-find_in_ball-end : goal.slice_bounds-find_in_ball-end
slice_bounds-find_in_ball-end c = sym (length-take-le _ _ (few (goal.at.slice_bounds-find_in_ball-end c).Start))

pub slice_bounds-queue-end : goal.slice_bounds-queue-end
slice_bounds-queue-end c = few (goal.at.slice_bounds-queue-end c).Start

pub slice_bounds-find_in_ball-end-2 : goal.slice_bounds-find_in_ball-end-2
slice_bounds-find_in_ball-end-2 c = sym (length-take-le _ _ (few (goal.at.slice_bounds-find_in_ball-end-2 c).Start))

pub slice_bounds-sets-end : goal.slice_bounds-sets-end
slice_bounds-sets-end c = few (goal.at.slice_bounds-sets-end c).Start

pub slice_bounds-find_in_ball-end-3 : goal.slice_bounds-find_in_ball-end-3
slice_bounds-find_in_ball-end-3 c = sym (length-take-le _ _ (few (goal.at.slice_bounds-find_in_ball-end-3 c).Start))

pub slice_bounds-spare-end : goal.slice_bounds-spare-end
slice_bounds-spare-end c = few (goal.at.slice_bounds-spare-end c).Start

pub slice_bounds-find_in_ball-end-4 : goal.slice_bounds-find_in_ball-end-4
slice_bounds-find_in_ball-end-4 c = sym (length-take-le _ _ (few (goal.at.slice_bounds-find_in_ball-end-4 c).Start))

pub find_in_ball-ball-requires : goal.find_in_ball-ball-requires
find_in_ball-ball-requires c =
    let size = few (goal.at.find_in_ball-ball-requires c).Start in record {
      some_tabled = record {
        part_starts = c.requires.some_drawn.part_starts;
        part_ends = c.requires.some_drawn.part_ends;
        node_starts = c.requires.some_drawn.node_starts;
        node_ends = c.requires.some_drawn.node_ends;
        tabled = drawn-tabled c.requires.some_drawn.drawn c.requires.some_drawn.prepared;
      };
      centre_in_bounds = c.requires.centre_in_bounds;
      dist_len = (length-take-le _ _ size, length-take-le _ _ size);
      sets_len = (length-take-le _ _ size, length-take-le _ _ size);
    }

-- what is found, of every pattern and board that the tables are of
placed : (c : After-find_in_ball-ball) (ps pe ns ne : List ℕ) →
    Drawn (circuit c.args.part_labels.now ps pe) (circuit c.args.node_labels.now ns ne) →
    Prepared (circuit c.args.part_labels.now ps pe) (circuit c.args.node_labels.now ns ne) ((tables c.args.masks.now c.args.offsets.now c.args.targets.now)) →
    PlacedIn (circuit c.args.part_labels.now ps pe) (circuit c.args.node_labels.now ns ne) ((tables c.args.masks.now c.args.offsets.now c.args.targets.now)) c.args.around c.find_in_ball-ball.new.dist c.find_in_ball-ball.new.queue c.find_in_ball-ball.new.sets c.find_in_ball-ball.result
placed c ps pe ns ne d p = c.find_in_ball-ball.ensures ps pe ns ne (drawn-tabled d p)

pub returns-in_default : goal.returns-in_default
returns-in_default c =
    λ ps pe ns ne d p.
    let b = placed (goal.at.returns-in_default c).After-find_in_ball-ball ps pe ns ne d p in
    around-none _ _ _ _ _ b.counted (sym b.answer ∙ ap is_some c.in_default.is) _ _ _ _

pub slice_bounds-sets-end-2 : goal.slice_bounds-sets-end-2
slice_bounds-sets-end-2 c = sets-room c.requires.some_drawn.drawn c.requires.some_drawn.prepared ((placed (goal.at.slice_bounds-sets-end-2 c).After-find_in_ball-ball c.requires.some_drawn.part_starts c.requires.some_drawn.part_ends c.requires.some_drawn.node_starts c.requires.some_drawn.node_ends c.requires.some_drawn.drawn c.requires.some_drawn.prepared)) c.in-Some.is _ []

pub slice_bounds-mark-end : goal.slice_bounds-mark-end
slice_bounds-mark-end c = sym (cut-long c.requires.some_drawn.drawn c.requires.some_drawn.prepared ((placed (goal.at.slice_bounds-mark-end c).After-find_in_ball-ball c.requires.some_drawn.part_starts c.requires.some_drawn.part_ends c.requires.some_drawn.node_starts c.requires.some_drawn.node_ends c.requires.some_drawn.drawn c.requires.some_drawn.prepared)) c.in-Some.is _ [])

pub slice_bounds-queue-end-2 : goal.slice_bounds-queue-end-2
slice_bounds-queue-end-2 c = place-room c.requires.some_drawn.drawn c.requires.some_drawn.prepared ((placed (goal.at.slice_bounds-queue-end-2 c).After-find_in_ball-ball c.requires.some_drawn.part_starts c.requires.some_drawn.part_ends c.requires.some_drawn.node_starts c.requires.some_drawn.node_ends c.requires.some_drawn.drawn c.requires.some_drawn.prepared)) c.in-Some.is [] _

pub slice_bounds-mark-end-2 : goal.slice_bounds-mark-end-2
slice_bounds-mark-end-2 c =
    sym (length-take-le _ _ (place-room c.requires.some_drawn.drawn c.requires.some_drawn.prepared ((placed (goal.at.slice_bounds-mark-end-2 c).After-find_in_ball-ball c.requires.some_drawn.part_starts c.requires.some_drawn.part_ends c.requires.some_drawn.node_starts c.requires.some_drawn.node_ends c.requires.some_drawn.drawn c.requires.some_drawn.prepared)) c.in-Some.is [] _))

pub slice_bounds-mark-end-3 : goal.slice_bounds-mark-end-3
slice_bounds-mark-end-3 c = c.requires.node_labels_in_bounds.0

pub slice_bounds-mark-end-4 : goal.slice_bounds-mark-end-4
slice_bounds-mark-end-4 c = sym (length-take-le _ _ c.requires.node_labels_in_bounds.0)

pub slice_bounds-mark-end-5 : goal.slice_bounds-mark-end-5
slice_bounds-mark-end-5 c = c.requires.node_labels_in_bounds.1

pub slice_bounds-mark-end-6 : goal.slice_bounds-mark-end-6
slice_bounds-mark-end-6 c = sym (length-take-le _ _ c.requires.node_labels_in_bounds.1)

pub slice_bounds-mark-end-7 : goal.slice_bounds-mark-end-7
slice_bounds-mark-end-7 c = c.requires.node_labels_in_bounds_2.0

pub slice_bounds-mark-end-8 : goal.slice_bounds-mark-end-8
slice_bounds-mark-end-8 c = sym (length-take-le _ _ c.requires.node_labels_in_bounds_2.0)

pub mark-requires : goal.mark-requires
mark-requires c =
    let b = (placed (goal.at.mark-requires c).After-find_in_ball-ball c.requires.some_drawn.part_starts c.requires.some_drawn.part_ends c.requires.some_drawn.node_starts c.requires.some_drawn.node_ends c.requires.some_drawn.drawn c.requires.some_drawn.prepared) in
    let f = c.in-Some.is in
    let m = get_or c.args.offsets.now (length c.args.node_labels.now) 0 in
    let long = cut-long c.requires.some_drawn.drawn c.requires.some_drawn.prepared b f _ [] in record {
      ready = cut-ready c.requires.some_drawn.drawn c.requires.some_drawn.prepared b f _ [];
      node_list = cut_list c.requires.some_drawn.drawn c.requires.some_drawn.prepared b f _ _;
      links_fit = cut-fit c.requires.some_drawn.drawn c.requires.some_drawn.prepared b f _ [] (take m c.args.bytes.now)
          (length-take-le m _ c.requires.node_labels_in_bounds.1 ∙ tabled-links (drawn-tabled c.requires.some_drawn.drawn c.requires.some_drawn.prepared));
      nodes_len = (length-take-le _ _ c.requires.node_labels_in_bounds.0 ∙ sym long, length-take-le _ _ c.requires.node_labels_in_bounds_2.0 ∙ sym long);
    }

pub slice_bounds-dist-end-2 : goal.slice_bounds-dist-end-2
slice_bounds-dist-end-2 c =
    dist-room c.requires.some_drawn.drawn c.requires.some_drawn.prepared ((placed (goal.at.slice_bounds-dist-end-2 c).After-find_in_ball-ball c.requires.some_drawn.part_starts c.requires.some_drawn.part_ends c.requires.some_drawn.node_starts c.requires.some_drawn.node_ends c.requires.some_drawn.drawn c.requires.some_drawn.prepared)) c.in-Some.is _ []

pub slice_bounds-copy-end : goal.slice_bounds-copy-end
slice_bounds-copy-end c =
    sym (length-take-le _ _ (dist-room c.requires.some_drawn.drawn c.requires.some_drawn.prepared ((placed (goal.at.slice_bounds-copy-end c).After-find_in_ball-ball c.requires.some_drawn.part_starts c.requires.some_drawn.part_ends c.requires.some_drawn.node_starts c.requires.some_drawn.node_ends c.requires.some_drawn.drawn c.requires.some_drawn.prepared)) c.in-Some.is _ []))

pub copy-requires : goal.copy-requires
copy-requires c =
    rw (length-take-le _ _ (dist-room c.requires.some_drawn.drawn c.requires.some_drawn.prepared ((placed (goal.at.copy-requires c).After-find_in_ball-ball c.requires.some_drawn.part_starts c.requires.some_drawn.part_ends c.requires.some_drawn.node_starts c.requires.some_drawn.node_ends c.requires.some_drawn.drawn c.requires.some_drawn.prepared)) c.in-Some.is _ [])) c.requires.node_labels_in_bounds_2.1

pub returns : goal.returns
returns c =
    let f = c.in-Some.is in
    let n = length c.args.node_labels.now in
    let m = get_or c.args.offsets.now n 0 in
    λ ps pe ns ne d p.
    let b = placed (goal.at.returns c).After-find_in_ball-ball ps pe ns ne d p in
    let last = tabled-links (drawn-tabled d p) in
    around-some _ _ _ _ _ b.counted (sym b.answer ∙ ap is_some f) _ _ _ _
    (ap (λ (xs : List ℕ). xs ++ drop n c.args.nodes.now) (marked-nodes d p b f _ _ c.mark.ensures.nodes_after))
    (ap (λ (xs : List ℕ). xs ++ drop m c.args.bytes.now) (marked-links d p b f _ _ (length-take-le _ _ c.requires.node_labels_in_bounds.1 ∙ last) c.mark.ensures.bytes_after)
    ∙ ap (λ (k : ℕ). place_links (circuit c.args.part_labels.now ps pe) (circuit c.args.node_labels.now ns ne) c.args.around.centre c.args.around.radius ++ drop k c.args.bytes.now) last)
    (ap (λ (xs : List ℕ). xs ++ drop n c.args.table.now) (marked-table d p b f _ _ c.mark.ensures.table_after))
    (copied d p b f _ [] c.args.distances.now c.copy.ensures)
