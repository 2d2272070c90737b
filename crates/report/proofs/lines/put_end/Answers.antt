-- `report::lines::put_end` meets its contract, word by word. Assumes nothing.
use Rattle.std.specs.Prelude.{◌≤◌, ◌+◌}
use Rattle.base_lists.specs.Kit.{sym, length, arith}
use Rattle.base_text.specs.Text.{bytes}
use Rattle.base_text.proofs.Text.{put_then, put_same}
use Rattle.report.proofs.Pieces.{end-pieces, numbered-length, fits-numbered, room-left}
use Rattle.report.proofs.lines.put_end.Goals as goal
use Rattle.report.proofs.lines.put_end.Goals.{After-put_numbered-end, After-put_numbered-of}

pub put_numbered-of-requires : goal.put_numbered-of-requires
unfolding bytes
put_numbered-of-requires c =
    fits-numbered (bytes "end ") 4 _ (omega (arith, c.requires.k_bound)) (omega (arith, c.requires.longest_line_in_bounds))

-- ---- the room that is left after each piece
room_of : (c : After-put_numbered-of) → c.put_numbered-of.result + 10 ≤ length c.put_numbered-of.new.out
unfolding bytes
room_of c =
    room-left 9 10 c.put_numbered-of.ensures (numbered-length (bytes "end ") 4 _ (omega (arith, c.requires.k_bound)))
    (omega (arith, c.requires.longest_line_in_bounds))

pub put_numbered-end-requires : goal.put_numbered-end-requires
unfolding bytes
put_numbered-end-requires c =
    fits-numbered (bytes " of ") 4 _ (omega (arith, c.requires.k_bound)) (omega (arith, room_of (goal.at.put_numbered-end-requires c).After-put_numbered-of))

room-end : (c : After-put_numbered-end) → c.put_numbered-end.result + 1 ≤ length c.put_numbered-end.new.out
unfolding bytes
room-end c =
    room-left 9 1 c.put_numbered-end.ensures (numbered-length (bytes " of ") 4 _ (omega (arith, c.requires.k_bound)))
    ((let fact : c.put_numbered-of.result + 10 ≤ length c.put_numbered-of.new.out = room-left 9 10 c.put_numbered-of.ensures (numbered-length (bytes "end ") 4 _ (omega (arith, c.requires.k_bound)))
    (omega (arith, c.requires.longest_line_in_bounds)) in fact))

pub put_byte-requires : goal.put_byte-requires
put_byte-requires c = record { room = omega (arith, room-end (goal.at.put_byte-requires c).After-put_numbered-end) }

pub returns : goal.returns
unfolding bytes
returns c =
    put_same (sym (end-pieces c.args.k c.args.n))
    (put_then c.put_numbered-of.ensures (put_then c.put_numbered-end.ensures c.put_byte.ensures))
