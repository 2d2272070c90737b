-- `report::lines::put_line` meets its contract, piece by piece. Assumes nothing.
use Rattle.std.specs.Prelude.{◌++◌}
use Rattle.base_lists.specs.Kit.{arith}
use Rattle.base_text.specs.Text.{bytes, Fits}
use Rattle.base_text.proofs.Text.{put_then, fits-less, fits-first, fits-then}
use Rattle.table.specs.Prepared.{tables}
use Rattle.report_texts.specs.Texts.{nodes_text, links_text, body_text, line_text}
use Rattle.report.proofs.Pieces.{fits_after}
use Rattle.report.proofs.lines.put_line.Goals as goal
use Rattle.report.proofs.lines.put_line.Goals.{After-put_bytes-after, After-put_head-nodes, After-put_nodes-slash}

-- ---- the room, before each piece
pub put_head-nodes-requires : goal.put_head-nodes-requires
unfolding line_text
put_head-nodes-requires c = fits-first _ _ c.requires.fits

room : (c : After-put_head-nodes) →
    Fits c.put_head-nodes.new.out c.put_head-nodes.result (nodes_text c.args.dist.now ++ (bytes " /" ++ ((links_text (tables c.args.masks.now c.args.offsets.now c.args.targets.now) c.args.dist.now c.args.sets.now) ++ bytes "\n")))
unfolding line_text body_text
room c = fits-then c.put_head-nodes.ensures c.requires.fits

pub put_nodes-slash-requires : goal.put_nodes-slash-requires
put_nodes-slash-requires c = record {
  names = c.requires.names;
  fits = fits-first _ _ (room (goal.at.put_nodes-slash-requires c).After-put_head-nodes);
}

room-slash : (c : After-put_nodes-slash) →
    Fits c.put_nodes-slash.new.out c.put_nodes-slash.result (bytes " /" ++ ((links_text (tables c.args.masks.now c.args.offsets.now c.args.targets.now) c.args.dist.now c.args.sets.now) ++ bytes "\n"))
unfolding body_text line_text
room-slash c = fits-then c.put_nodes-slash.ensures ((let fact : Fits c.put_head-nodes.new.out c.put_head-nodes.result (nodes_text c.args.dist.now ++ (bytes " /" ++ ((links_text (tables c.args.masks.now c.args.offsets.now c.args.targets.now) c.args.dist.now c.args.sets.now) ++ bytes "\n"))) = fits-then c.put_head-nodes.ensures c.requires.fits in fact))

pub put_bytes-after-requires : goal.put_bytes-after-requires
unfolding bytes
put_bytes-after-requires c =
    fits-less _ (omega arith) (fits-first (bytes " /") _ (room-slash (goal.at.put_bytes-after-requires c).After-put_nodes-slash))

room-links : (c : After-put_bytes-after) →
    Fits c.put_bytes-after.new.out c.put_bytes-after.result ((links_text (tables c.args.masks.now c.args.offsets.now c.args.targets.now) c.args.dist.now c.args.sets.now) ++ bytes "\n")
unfolding body_text bytes line_text
room-links c = fits_after (bytes " /") _ (omega arith) c.put_bytes-after.ensures ((let fact : Fits c.put_nodes-slash.new.out c.put_nodes-slash.result (bytes " /" ++ ((links_text (tables c.args.masks.now c.args.offsets.now c.args.targets.now) c.args.dist.now c.args.sets.now) ++ bytes "\n")) = fits-then c.put_nodes-slash.ensures ((let fact : Fits c.put_head-nodes.new.out c.put_head-nodes.result (nodes_text c.args.dist.now ++ (bytes " /" ++ ((links_text (tables c.args.masks.now c.args.offsets.now c.args.targets.now) c.args.dist.now c.args.sets.now) ++ bytes "\n"))) = fits-then c.put_head-nodes.ensures c.requires.fits in fact)) in fact))

pub put_links-end-requires : goal.put_links-end-requires
put_links-end-requires c =
    record {
      names = c.requires.names;
      sets_len = c.requires.sets_len;
      ready = c.requires.ready;
      fits = fits-first _ _ (room-links (goal.at.put_links-end-requires c).After-put_bytes-after);
    }

pub put_byte-requires : goal.put_byte-requires
unfolding bytes
put_byte-requires c = fits-then c.put_links-end.ensures (room-links (goal.at.put_byte-requires c).After-put_bytes-after)

pub returns : goal.returns
unfolding line_text body_text bytes
returns c =
    put_then c.put_head-nodes.ensures
    (put_then c.put_nodes-slash.ensures
    (put_then c.put_bytes-after.ensures (put_then c.put_links-end.ensures c.put_byte.ensures)))
