-- Laws of what became of reading a file. Assumes nothing.
use Rattle.std.proofs.Common.{Bool, true, false, cond, ◌≡◌, refl, ℕ, Result, Ok, Err}
use Rattle.std.specs.Prelude.{IsOk}
use Rattle.std.specs.declared.fs.File.{File}
use Rattle.std.specs.declared.io.Error.{Error}
use Rattle.input.specs.declared.ReadError.TheVariants.{Unreadable}
use Rattle.input.specs.Reading.{is_open, is_end, ended_of, Tells}

-- a file that was not read to where there is no more room was read to its end, or could not be read
pub ended_tells : (size room : ℕ) (more : Result ℕ Error) → (size ≡ room → ⊥) → Tells size room (ended_of size more)
unfolding ended_of
ended_tells size room more h = go (is_end more)
  where
    go : (b : Bool) → Tells size room (cond b (Ok size) (Err Unreadable))
    go true = refl
    go false = h

-- what is open is no error
pub open_ok : (opened : Result File Error) → is_open opened ≡ true → IsOk opened
unfolding is_open
open_ok (Ok file) e = refl
open_ok (Err error) e = cc
