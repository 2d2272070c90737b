-- `base_text::put_four` meets its contract: the four bytes are copied over those from the offset on. Assumes nothing.
use Rattle.std.specs.Prelude.{◌≡◌, ◌/◌, ◌%◌}
use Rattle.base_lists.specs.Kit.{arith, rules}
use Rattle.base_text.specs.Text.{bytes_of_four}
use Rattle.base_text.proofs.Text.{put-copied}
use Rattle.base_text.proofs.put_four.Goals as goal

pub slice_bounds-copy_from_slice-end : goal.slice_bounds-copy_from_slice-end
unfolding bytes_of_four
slice_bounds-copy_from_slice-end c = let room = c.requires.room in search rules

pub returns : goal.returns
unfolding bytes_of_four
returns c =
    let top : c.args.x / 16777216 % 256 ≡ c.args.x / 16777216 = omega arith in
    rw (c.copy_from_slice.ensures.after, c.to_le_bytes.ensures, top) (put-copied _ (bytes_of_four c.args.x) _ _ c.requires (omega arith))
