-- `report_locate::put_new` meets its contract: nothing where there is no place around the centre, else the line of the place. Assumes nothing.
use Rattle.std.specs.Prelude.{◌≡◌, ◌≤◌}
use Rattle.base_lists.specs.Kit.{◌∙◌, sym, length, length-take-le, arith}
use Rattle.base_text.proofs.Text.{put-nothing, put_same, fits-same}
use Rattle.graph.specs.Circuit.{Circuit}
use Rattle.table.specs.Prepared.{tables}
use Rattle.report.specs.Lines.{line_text}
use Rattle.report.specs.Report.{centre_line}
use Rattle.report.proofs.Lengths.{centre-fits}
use Rattle.report_locate.specs.Source.{Source}
use Rattle.report_locate.proofs.Centre.{source-long, source-few, source-missed, source-line}
use Rattle.report_locate.proofs.put_new.Goals as goal
use Rattle.report_locate.proofs.put_new.Goals.{Else-not-there, Start}

-- the scratch table has room for the board
few : (s : Start) → length s.args.whole.now ≤ 512
few s = source-few s.requires.source_of_some.source

pub slice_bounds-table-end : goal.slice_bounds-table-end
slice_bounds-table-end c = few (goal.at.slice_bounds-table-end c).Start

pub slice_bounds-sets-end : goal.slice_bounds-sets-end
slice_bounds-sets-end c = sym (length-take-le _ _ (few (goal.at.slice_bounds-sets-end c).Start))

pub locate-there-requires : goal.locate-there-requires
locate-there-requires c =
    record {
      source_of_some = c.requires.source_of_some;
      centre_in_bounds = c.requires.centre_in_bounds;
      ball_holds = c.requires.ball_holds;
      dist_len = (c.requires.dist_len.0, c.requires.dist_len.1, length-take-le _ _ (few (goal.at.locate-there-requires c).Start));
    }

pub returns-then-not-there : goal.returns-then-not-there
returns-then-not-there c =
    λ pattern board s. put_same (sym (source-missed s _ _ (c.locate-there.ensures pattern board s).answer (c.if-not-there.true))) put-nothing

line : (c : Else-not-there) → let t = tables c.args.masks.now c.args.offsets.now c.args.targets.now in
    (pattern board : Circuit) → Source pattern board t c.args.whole.now c.args.line.around.radius
    → line_text t c.locate-there.new.dist c.locate-there.new.sets c.args.line.around.centre
    ≡ centre_line pattern board c.args.line.around.centre
line c pattern board s =
    let place = c.locate-there.ensures pattern board s in
    let found = c.if-not-there.false in
    source-line s _ _ place.answer found (place.there found)

pub put_line-requires : goal.put_line-requires
put_line-requires c =
    let l = (c.locate-there.ensures _ _ c.requires.source_of_some.source).there (c.if-not-there.false) in
    record {
      names = (c.requires.names.0, omega (arith, c.requires.names.1, l.size, source-long c.requires.source_of_some.source));
      sets_len = l.long ∙ sym l.size;
      ready = l.ready;
      fits = fits-same (sym (line (goal.at.put_line-requires c).Else-not-there _ _ c.requires.source_of_some.source)) (centre-fits _ _ _ c.requires.source_of_some.source.drawn.nodes (rw (source-long c.requires.source_of_some.source) at c.requires.centre_in_bounds.0) c.requires.longest_line_in_bounds);
    }

pub returns : goal.returns
returns c =
    λ pattern board s. put_same (line (goal.at.returns c).Else-not-there pattern board s) c.put_line.ensures
