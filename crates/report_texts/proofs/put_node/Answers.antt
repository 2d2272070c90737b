-- `report_texts::put_node` meets its contract: the node after a space. Assumes nothing.
use Rattle.std.specs.Prelude.{◌≡◌, ◌++◌}
use Rattle.base_lists.specs.Kit.{◌∙◌, sym, arith}
use Rattle.base_text.specs.Text.{bytes, decimal}
use Rattle.base_text.proofs.Text.{put-nothing, put_same, fits-same}
use Rattle.report_texts.specs.Texts.{node_text}
use Rattle.report_texts.proofs.Items.{node-missed, node-reached}
use Rattle.report_texts.proofs.put_node.Goals as goal
use Rattle.report_texts.proofs.put_node.Goals.{Else-not-is_reached}

pub returns-then-not-is_reached : goal.returns-then-not-is_reached
returns-then-not-is_reached c =
    put_same (sym (node-missed c.args.dist.now c.args.v (sym c.is_reached.ensures ∙ c.if-not-is_reached.true))) put-nothing

-- the node is reached
text : (c : Else-not-is_reached) → node_text c.args.dist.now c.args.v ≡ bytes " " ++ decimal c.args.v
text c =
    node-reached c.args.dist.now c.args.v (sym c.is_reached.ensures ∙ c.if-not-is_reached.false)

pub put_name-requires : goal.put_name-requires
unfolding bytes
put_name-requires c =
    record {
      names = c.requires.names.0;
      x_in_bounds = omega (arith, c.requires.names.1, c.requires.v_in_bounds);
      fits = fits-same (text (goal.at.put_name-requires c).Else-not-is_reached) c.requires.fits;
    }

pub returns : goal.returns
unfolding bytes
returns c = put_same (sym (text (goal.at.returns c).Else-not-is_reached)) c.put_name.ensures
