-- `report::lines::put_start` meets its contract. Assumes nothing.
use Rattle.std.specs.Prelude.{◌≡◌}
use Rattle.base_lists.specs.Kit.{◌∙◌, sym, arith}
use Rattle.base_text.proofs.Text.{put-nothing, put_same, fits-same}
use Rattle.graph_neighbours.specs.Lookup.{neighbours_in}
use Rattle.graph_neighbours.proofs.Lookup.{neighbours-below}
use Rattle.table.specs.Prepared.{tables}
use Rattle.report_texts.specs.Texts.{start_text, driven_text}
use Rattle.report.proofs.Pieces.{start-missed, start-reached}
use Rattle.report.proofs.lines.put_start.Goals as goal
use Rattle.report.proofs.lines.put_start.Goals.{After-neighbours_in-ends}

pub returns-then-not-there : goal.returns-then-not-there
returns-then-not-there c =
    put_same (sym (start-missed ((tables c.args.masks.now c.args.offsets.now c.args.targets.now)) c.args.dist.now c.args.sets.now c.args.v (sym c.is_reached-there.ensures ∙ c.if-not-there.true))) put-nothing

pub neighbours_in-ends-requires : goal.neighbours_in-ends-requires
neighbours_in-ends-requires c =
    record { nodes = _; net = c.requires.ready.net; node = rw c.requires.sets_len c.requires.v_in_bounds }

-- the text of the links, from the union and the stretch
text : (c : After-neighbours_in-ends) → start_text ((tables c.args.masks.now c.args.offsets.now c.args.targets.now)) c.args.dist.now c.args.sets.now c.args.v
    ≡ driven_text c.driven_parts-driven.result c.args.sets.now c.args.v c.neighbours_in-ends.result.now
unfolding neighbours_in
text c =
    start-reached ((tables c.args.masks.now c.args.offsets.now c.args.targets.now)) c.args.dist.now c.args.sets.now c.args.v _ _
    (sym c.is_reached-there.ensures ∙ c.if-not-there.false) c.driven_parts-driven.ensures c.neighbours_in-ends.ensures

pub put_driven-requires : goal.put_driven-requires
put_driven-requires c =
    record {
      names = (c.requires.names.0, omega (arith, c.requires.names.1, c.requires.sets_len), omega (arith, c.requires.names.1, c.requires.v_in_bounds));
      below = rw c.neighbours_in-ends.ensures (neighbours-below _ c.requires.ready.net _ (rw c.requires.sets_len c.requires.v_in_bounds));
      fits = fits-same (text (goal.at.put_driven-requires c).After-neighbours_in-ends) c.requires.fits;
    }

pub returns : goal.returns
returns c = put_same (sym (text (goal.at.returns c).After-neighbours_in-ends)) c.put_driven.ensures
