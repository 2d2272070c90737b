-- What the contracts of writing cite.
use Rattle.std.specs.Prelude.{Bool, false, ◌||◌, List, ◌≡◌, ℕ, eqb, ℤ, pos, negsuc, length}
use Rattle.std.specs.Prelude.{Option, Some, None}
use Rattle.std.specs.IoError.{raw_os_error}
use Rattle.std.specs.declared.io.Error.{Error}

-- C's errno has this number
unfoldable pub is_error : ℕ → ℤ → Bool
is_error number (pos error) = eqb error number
is_error number (negsuc error) = false

-- the errors after which a write is tried again: EINTR is 4, EAGAIN is 11
unfoldable pub tried_again : ℤ → Bool
tried_again error = is_error 4 error || is_error 11 error

-- where the writing did not fail, as many bytes were taken as there are
unfoldable pub All : List ℕ → Option ℕ → Type 0
All bytes (Some taken) = taken ≡ length bytes
All bytes None = Unit {0}

-- C's errno of an error, 0 where it is not the system's
abbrev pub number_of : Error → ℤ
number_of error = or_none (raw_os_error error)
  where
    or_none : Option ℤ → ℤ
    or_none (Some number) = number
    or_none None = pos 0
