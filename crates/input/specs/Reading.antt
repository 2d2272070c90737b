-- What the contracts of reading cite.
use Rattle.std.specs.Prelude.{Bool, true, false, cond, ◌≡◌, ℕ, ◌≤◌, eqb, ℤ, Result, Ok, Err, List, length, take}
use Rattle.std.specs.declared.fs.File.{File}
use Rattle.std.specs.declared.io.Error.{Error}
use Rattle.output.specs.Writing.{is_error}
use Rattle.input.specs.declared.ReadError.{ReadError}
use Rattle.input.specs.declared.ReadError.TheVariants.{Absent, Unreadable}

-- what became of reading a file: so many of its bytes were read; or there is no such name; or it cannot be read
abbrev pub FileFound : Type 0
FileFound = Result ℕ ReadError

-- an open file is one, whatever its number is, from 0 on
unfoldable pub is_open : Result File Error → Bool
is_open (Ok file) = true
is_open (Err error) = false

-- 'absent': the file could not be opened for ENOENT, which is 2, and for no other error
unfoldable pub is_absent : ℤ → Bool
is_absent error = is_error 2 error

-- why a file was not read that was not opened
unfoldable pub unopened_of : ℤ → ReadError
unopened_of error = cond (is_absent error) Absent Unreadable

-- one read more answers 0 at the file's end, and there alone
unfoldable pub is_end : Result ℕ Error → Bool
is_end (Ok more) = eqb more 0
is_end (Err error) = false

-- what became of a file whose reading stopped after so many bytes, by what one read more answered
unfoldable pub ended_of : ℕ → Result ℕ Error → FileFound
ended_of size more = cond (is_end more) (Ok size) (Err Unreadable)

-- an open file is there, whatever its length; where it could be read, this is how many bytes were; and it could, where there was no more room
abbrev pub Tells : ℕ → ℕ → FileFound → Type 0
Tells size room (Ok told) = told ≡ size
Tells size room (Err Absent) = ⊥
Tells size room (Err Unreadable) = size ≡ room → ⊥

-- what is read has room
abbrev pub Within : ℕ → FileFound → Type 0
Within room (Ok size) = size ≤ room
Within room (Err error) = Unit {0}

-- so many bytes stand at the front of a buffer
abbrev pub IsPrefixLen : ℕ → List ℕ → Type 0
IsPrefixLen n xs = (n ≤ length xs) × (n ≡ length (take n xs))
