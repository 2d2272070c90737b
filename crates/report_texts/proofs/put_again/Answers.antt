-- `report_texts::put_again` meets its contract: the head, and then the text, which the head leaves where it stands. Assumes nothing.
use Rattle.std.specs.Prelude.{◌≤◌, ◌+◌, ◌-◌}
use Rattle.base_lists.specs.Kit.{length, length-append, arith}
use Rattle.base_lists.specs.List.{part}
use Rattle.base_lists.proofs.Parts.{length_part}
use Rattle.base_text.proofs.Text.{put_then, put_same, put-length, fits-first}
use Rattle.report_texts.specs.Texts.{head_text}
use Rattle.report_texts.proofs.Texts.{put-before}
use Rattle.report_texts.proofs.put_again.Goals as goal
use Rattle.report_texts.proofs.put_again.Goals.{Start}

-- the text is so long, and there is room for it
room : (s : Start) → (s.args.text.from + (s.args.text.to - s.args.text.from) ≤ length s.args.out.now) × (s.args.at + (length (head_text s.args.c) + (s.args.text.to - s.args.text.from)) ≤ length s.args.out.now)
room s =
    let two = length-append (head_text s.args.c) (part s.args.text.from (s.args.text.to - s.args.text.from) s.args.out.now) in
    let inside : s.args.text.from + (s.args.text.to - s.args.text.from) ≤ length s.args.out.now = omega (arith, s.requires.from_le_to, s.requires.fits.room, two) in
    (inside, omega (arith, s.requires.fits.room, two, length_part s.args.text.from (s.args.text.to - s.args.text.from) s.args.out.now inside))

pub put_head-body-requires : goal.put_head-body-requires
put_head-body-requires c = fits-first _ _ c.requires.fits

pub put_copy-requires : goal.put_copy-requires
put_copy-requires c =
    (c.requires.from_le_to.0, omega (arith, c.requires.from_le_to, c.put_head-body.ensures.end), omega (arith, room (goal.at.put_copy-requires c).Start, c.put_head-body.ensures.end, put-length c.put_head-body.ensures))

pub returns : goal.returns
returns c =
    put_then c.put_head-body.ensures (put_same (put-before c.put_head-body.ensures c.args.text.from (c.args.text.to - c.args.text.from) (omega (arith, c.requires.from_le_to)) (room (goal.at.returns c).Start).0) c.put_copy.ensures)
