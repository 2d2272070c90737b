-- `call_shelf::lines::put_line` meets its contract: three bytes, one after another. Assumes nothing.
use Rattle.std.specs.Prelude.{◌∷◌, ◌++◌, ◌+◌, ◌/◌, ◌%◌}
use Rattle.base_lists.specs.Kit.{List, [], ℕ}
use Rattle.base_text.specs.Text.{Put, Fits}
use Rattle.base_text.proofs.Text.{put_then, fits-first, fits-then}
use Rattle.call_shelf.specs.Text.{line_of}
use Rattle.call_shelf.proofs.lines.put_line.Goals as goal

-- the line, byte by byte
abbrev tens : ℕ → List ℕ
tens x = (48 + x / 10) ∷ []

abbrev ones : ℕ → List ℕ
ones x = (48 + x % 10) ∷ []

abbrev end : List ℕ
end = 10 ∷ []

in_bytes : {o : List ℕ} {at : ℕ} (x : ℕ) → Fits o at (line_of x) → Fits o at (tens x ++ (ones x ++ end))
unfolding line_of
in_bytes x f = f

put-bytes : {o o1 o2 o3 : List ℕ} {at p q r : ℕ} (x : ℕ) → Put o at (tens x) o1 p → Put o1 p (ones x) o2 q → Put o2 q end o3 r → Put o at (line_of x) o3 r
unfolding line_of
put-bytes x a b c = put_then a (put_then b c)

pub put_byte-tens-requires : goal.put_byte-tens-requires
put_byte-tens-requires c =
    fits-first _ _ (in_bytes c.args.x c.requires)

pub put_byte-ones-requires : goal.put_byte-ones-requires
put_byte-ones-requires c =
    fits-first _ _ (fits-then c.put_byte-tens.ensures (in_bytes c.args.x c.requires))

pub put_byte-requires : goal.put_byte-requires
put_byte-requires c =
    fits-then c.put_byte-ones.ensures (fits-then c.put_byte-tens.ensures (in_bytes c.args.x c.requires))

pub returns : goal.returns
returns c =
    put-bytes c.args.x c.put_byte-tens.ensures c.put_byte-ones.ensures c.put_byte.ensures
