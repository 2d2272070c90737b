-- `report_centres::put_lines` meets its contract. The loop's invariant: the lines of the centres before c are put and those with a place
-- counted (Progress), of every pattern and board that lines are put from; and the scratch tables are as long as the board's. The measure is how
-- many centres are left. Assumes nothing.
use Rattle.std.specs.Prelude.{◌≡◌, ◌≤◌, ◌<◌, ◌+◌}
use Rattle.base_lists.specs.Kit.{◌∙◌, sym, true, lit≤, length, length-take-le, arith, leb-true}
use Rattle.base_text.proofs.Text.{put-length}
use Rattle.graph.specs.Circuit.{Circuit}
use Rattle.file_format.specs.declared.Role.TheVariants.{Board}
use Rattle.file_format.specs.Circuit.{Bounded}
use Rattle.table.specs.Prepared.{tables}
use Rattle.report.specs.Lines.{longest_line}
use Rattle.report_pieces.specs.Pieces.{roomy, centres_piece, lines_piece, Wrote}
use Rattle.report_locate.specs.Source.{Source}
use Rattle.report_locate.proofs.Centre.{source-long, source-few}
use Rattle.report_centres.proofs.OnceMore.{kept-start}
use Rattle.report_pieces.proofs.Progress.{Progress, progress_start, progress-small, progress-goes, progress_step, progress-end, piece-small}
use Rattle.report_pieces.proofs.Pieces.{wrote-within, closed-wrote}
use Rattle.report_centres.proofs.put_lines.Goals as goal
use Rattle.report_centres.proofs.put_lines.Goals.{After-loop-dist, After-make_names, At-loop-dist, In-loop-dist}

pub make_names-requires : goal.make_names-requires
make_names-requires c = lit≤ tt

-- the scratch tables have room for the board
scratch : (c : After-make_names) → length c.args.whole.now ≤ 512
scratch c = source-few c.requires.source_of_some.source

pub slice_bounds-distances-end : goal.slice_bounds-distances-end
slice_bounds-distances-end c = scratch (goal.at.slice_bounds-distances-end c).After-make_names

pub slice_bounds-dist-end : goal.slice_bounds-dist-end
slice_bounds-dist-end c = sym (length-take-le _ _ (scratch (goal.at.slice_bounds-dist-end c).After-make_names))

pub slice_bounds-nodes-end : goal.slice_bounds-nodes-end
slice_bounds-nodes-end c = scratch (goal.at.slice_bounds-nodes-end c).After-make_names

pub slice_bounds-queue-end : goal.slice_bounds-queue-end
slice_bounds-queue-end c = sym (length-take-le _ _ (scratch (goal.at.slice_bounds-queue-end c).After-make_names))

pub loop-dist-init : goal.loop-dist-init
loop-dist-init c =
    let h = scratch (goal.at.loop-dist-init c).After-make_names in
    (λ pattern board s. progress_start _ _ _ _ _, (length-take-le _ _ h, length-take-le _ _ h), kept-start)

-- where the loop stands, of the pattern and the board that there are
stands : (c : At-loop-dist) →
    Progress c.requires.source_of_some.pattern c.requires.source_of_some.board c.args.resume.from c.args.resume.found c.args.out.now c.loop-dist.c c.loop-dist.count c.loop-dist.at c.loop-dist.out
stands c = c.loop-dist.invariant.0 _ _ c.requires.source_of_some.source

pub goes_on-requires : goal.goes_on-requires
goes_on-requires c = omega (arith, (stands (goal.at.goes_on-requires c).At-loop-dist).fits, put-length (stands (goal.at.goes_on-requires c).At-loop-dist).put)

goes : (c : In-loop-dist) →
    (pattern board : Circuit)
    → Source pattern board (tables c.args.masks.now c.args.offsets.now c.args.targets.now) c.args.whole.now c.args.resume.radius
    → (c.loop-dist.c < length board.labels) × (roomy (length c.args.out.now) c.loop-dist.at ≡ true)
goes c pattern board s =
    progress-goes _ _ _ _ (c.loop-dist.invariant.0 pattern board s) _ (rw (source-long s) at c.goes_on.ensures) c.loop-dist-test.true

-- so the centre is one of the board's
more : (c : In-loop-dist) → c.loop-dist.c < length c.args.whole.now
more c = rw (source-long c.requires.source_of_some.source) (goes c _ _ c.requires.source_of_some.source).0

pub overflow_cast-around : goal.overflow_cast-around
overflow_cast-around c = omega (arith, more (goal.at.overflow_cast-around c).In-loop-dist, source-few c.requires.source_of_some.source)

pub put_centre-next-requires : goal.put_centre-next-requires
put_centre-next-requires c =
    let room : c.loop-dist.at + longest_line ≤ length c.args.out.now = leb-true _ _ (goes (goal.at.put_centre-next-requires c).In-loop-dist _ _ c.requires.source_of_some.source).1 in
    record {
      source_of_some = c.requires.source_of_some;
      components = c.requires.components;
      centre_in_bounds = more (goal.at.put_centre-next-requires c).In-loop-dist;
      dist_len = c.loop-dist.invariant.1;
      names = (c.make_names.ensures, omega (arith, c.make_names.auto.names, source-few c.requires.source_of_some.source));
      longest_line_in_bounds = omega (arith, put-length (stands (goal.at.put_centre-next-requires c).At-loop-dist).put);
      kept = c.loop-dist.invariant.2;
    }

pub count_put-count-requires : goal.count_put-count-requires
count_put-count-requires c =
    progress-small _ _ _ _ (stands (goal.at.count_put-count-requires c).At-loop-dist) c.requires.source_of_some.source.drawn.nodes (omega arith)

pub overflow_add-c : goal.overflow_add-c
overflow_add-c c = omega (arith, more (goal.at.overflow_add-c c).In-loop-dist, source-few c.requires.source_of_some.source)

pub loop-dist-smaller : goal.loop-dist-smaller
loop-dist-smaller c = omega (arith, more (goal.at.loop-dist-smaller c).In-loop-dist)

pub loop-dist-preserved : goal.loop-dist-preserved
loop-dist-preserved c = (
  λ pattern board s.
      let (more, spacious) = goes (goal.at.loop-dist-preserved c).In-loop-dist pattern board s in
      progress_step _ _ _ _ (c.loop-dist.invariant.0 pattern board s) s.drawn.nodes more spacious (c.put_centre-next.ensures.every_line pattern board s) c.count_put-count.ensures,
  (omega (arith, c.put_centre-next.auto.dist, c.loop-dist.invariant.1.0), omega (arith, c.put_centre-next.auto.queue, c.loop-dist.invariant.1.1)),
  c.put_centre-next.ensures.kept_2,
)

-- the lines of the centres are put
lined : (c : After-loop-dist) →
    (pattern board : Circuit) → Source pattern board (tables c.args.masks.now c.args.offsets.now c.args.targets.now) c.args.whole.now c.args.resume.radius
    → Wrote c.args.out.now (centres_piece pattern board c.args.resume.from c.args.resume.found (length c.args.out.now)) c.loop-dist.out
    (record { next = c.loop-dist.c; found = c.loop-dist.count; size = c.loop-dist.at })
lined c pattern board s =
    progress-end _ _ _ _ (c.loop-dist.invariant.0 pattern board s) _ (rw (source-long s) at c.goes_on.ensures) c.loop-dist-test.false

-- and so few of them count
few : (c : After-loop-dist) (pattern board : Circuit) → Bounded Board board →
    (centres_piece pattern board c.args.resume.from c.args.resume.found (length c.args.out.now)).found < 100000
few c pattern board b = piece-small pattern board _ _ b (omega arith) _

pub put_last-requires : goal.put_last-requires
put_last-requires c =
    let wrote = lined (goal.at.put_last-requires c).After-loop-dist _ _ c.requires.source_of_some.source in
    (wrote-within wrote, rw wrote.found (few (goal.at.put_last-requires c).After-loop-dist _ _ c.requires.source_of_some.source.drawn.nodes), omega (arith, source-few c.requires.source_of_some.source))

pub shape_of-out : goal.shape_of-out
shape_of-out c =
    c.put_last.auto.out ∙ put-length (stands (goal.at.shape_of-out c).At-loop-dist).put

pub returns : goal.returns
unfolding lines_piece
returns c pattern board s =
    closed-wrote _ (few (goal.at.returns c).After-loop-dist _ _ s.drawn.nodes) (omega (arith, s.drawn.nodes.nodes)) (lined (goal.at.returns c).After-loop-dist pattern board s)
    (rw (source-long s) at c.put_last.ensures)
