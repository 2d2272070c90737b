-- `report_texts::put_link` meets its contract: the start after a space, and the end after a hyphen. Assumes nothing.
use Rattle.std.specs.Prelude.{◌≡◌, ◌++◌, ◌≤◌, ◌+◌}
use Rattle.base_lists.specs.Kit.{◌∙◌, sym, length, arith}
use Rattle.base_text.specs.Text.{bytes, decimal}
use Rattle.base_text.proofs.Text.{put-nothing, put_then, put_same, put-length, fits-same}
use Rattle.report_texts.specs.Texts.{link_text}
use Rattle.report_texts.proofs.Items.{link_apart, link-meets, link-room}
use Rattle.report_texts.proofs.put_link.Goals as goal
use Rattle.report_texts.proofs.put_link.Goals.{Else-not-meets}

pub returns-then-not-meets : goal.returns-then-not-meets
returns-then-not-meets c =
    put_same (sym (link_apart c.args.driven c.args.set c.args.v c.args.w (sym c.meets.ensures ∙ c.if-not-meets.true))) put-nothing

-- the sets meet: the start after a space, and the end after a hyphen
text : (c : Else-not-meets) → link_text c.args.driven c.args.set c.args.v c.args.w ≡ bytes " " ++ (decimal c.args.v ++ (bytes "-" ++ decimal c.args.w))
text c =
    link-meets c.args.driven c.args.set c.args.v c.args.w (sym c.meets.ensures ∙ c.if-not-meets.false)

-- so there is room for the pieces, whichever comes first
room : (c : Else-not-meets) → c.args.at + (1 + (length (decimal c.args.v) + (1 + length (decimal c.args.w)))) ≤ length c.args.out.now
room c = link-room c.args.v c.args.w (fits-same (text c) c.requires.fits)

pub put_name-hyphen-requires : goal.put_name-hyphen-requires
put_name-hyphen-requires c =
    record {
      names = c.requires.names.0;
      x_in_bounds = omega arith;
      fits = record { room = omega (arith, room (goal.at.put_name-hyphen-requires c).Else-not-meets) };
    }

pub put_name-requires : goal.put_name-requires
put_name-requires c =
    record {
      names = c.requires.names.0;
      x_in_bounds = omega arith;
      fits = record { room = omega (arith, room (goal.at.put_name-requires c).Else-not-meets, c.put_name-hyphen.ensures.end, put-length c.put_name-hyphen.ensures) };
    }

pub returns : goal.returns
unfolding bytes
returns c =
    put_same (sym (text (goal.at.returns c).Else-not-meets))
    (put_then c.put_name-hyphen.ensures c.put_name.ensures)
