-- `report::lines::put_refusal` meets its contract, word by word. Assumes nothing.
use Rattle.std.specs.Prelude.{◌≤◌, ◌+◌}
use Rattle.base_lists.specs.Kit.{sym, length, arith}
use Rattle.base_text.specs.Text.{bytes}
use Rattle.base_text.proofs.Text.{put_then, put_same}
use Rattle.report.proofs.Lengths.{word-length}
use Rattle.report.proofs.Pieces.{refusal-pieces, numbered-length, fits-numbered, room-left}
use Rattle.report.proofs.lines.put_refusal.Goals as goal
use Rattle.report.proofs.lines.put_refusal.Goals.{After-put_file-end, After-put_numbered-file}

pub put_numbered-file-requires : goal.put_numbered-file-requires
unfolding bytes
put_numbered-file-requires c =
    fits-numbered (bytes "refused ") 2 c.args.x.number (omega arith) (omega (arith, c.requires))

-- ---- the room that is left after each piece
room-file : (c : After-put_numbered-file) → c.put_numbered-file.result + 9 ≤ length c.put_numbered-file.new.out
unfolding bytes
room-file c =
    room-left 11 9 c.put_numbered-file.ensures (numbered-length (bytes "refused ") 2 c.args.x.number (omega arith))
    (omega (arith, c.requires))

pub put_file-end-requires : goal.put_file-end-requires
put_file-end-requires c = omega (arith, room-file (goal.at.put_file-end-requires c).After-put_numbered-file)

room-end : (c : After-put_file-end) → c.put_file-end.result + 1 ≤ length c.put_file-end.new.out
unfolding bytes
room-end c = room-left 8 1 c.put_file-end.ensures (word-length _) ((let fact : c.put_numbered-file.result + 9 ≤ length c.put_numbered-file.new.out = room-left 11 9 c.put_numbered-file.ensures (numbered-length (bytes "refused ") 2 c.args.x.number (omega arith))
    (omega (arith, c.requires)) in fact))

pub put_byte-requires : goal.put_byte-requires
put_byte-requires c = record { room = omega (arith, room-end (goal.at.put_byte-requires c).After-put_file-end) }

pub returns : goal.returns
unfolding bytes
returns c =
    put_same (sym (refusal-pieces c.args.x))
    (put_then c.put_numbered-file.ensures (put_then c.put_file-end.ensures c.put_byte.ensures))
