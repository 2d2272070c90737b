-- `base_text::put_name` meets its contract: a byte and one or two digits, or four bytes at once. Assumes nothing.
use Rattle.std.specs.Prelude.{◌≡◌, ◌∷◌, ◌≤◌, ◌+◌}
use Rattle.base_lists.specs.Kit.{◌∙◌, sym, ap, ℕ, get_or, arith}
use Rattle.base_text.specs.Text.{decimal, bytes_of_four}
use Rattle.base_text.proofs.Text.{put_then, put_same, fits-same, name-at, name-small, name-bytes}
use Rattle.base_text.proofs.put_name.Goals as goal
use Rattle.base_text.proofs.put_name.Goals.{Start}

pub returns-then-x-lt100 : goal.returns-then-x-lt100
returns-then-x-lt100 c = put_then c.put_byte-next.ensures c.put_two.ensures

pub overflow_add-names : goal.overflow_add-names
overflow_add-names c =
    omega (arith, name-at c.requires.names c.args.x c.requires.x_in_bounds, name-small c.args.b c.args.x c.ranges.b.fits (omega arith))

-- the bytes of the sum
text : (s : Start) → 100 ≤ s.args.x →
    bytes_of_four (get_or s.args.names.now s.args.x 0 + s.args.b) ≡ s.args.b ∷ decimal s.args.x
text s h =
    ap (λ (n : ℕ). bytes_of_four (n + s.args.b)) (name-at s.requires.names s.args.x s.requires.x_in_bounds)
    ∙ name-bytes s.args.b s.args.x s.ranges.b.fits h (omega arith)

pub put_four-requires : goal.put_four-requires
put_four-requires c = fits-same (sym (text (goal.at.put_four-requires c).Start (omega arith))) c.requires.fits

pub returns : goal.returns
returns c =
    put_same (text (goal.at.returns c).Start (omega arith)) c.put_four.ensures
