-- What is held of a file.
use Rattle.base_lists.specs.Kit.{List, [], ℕ}
use Rattle.std.specs.Prelude.{Ok, Err, Option, Some, None}
use Rattle.base_text.specs.Text.{bytes}
use Rattle.file_format.specs.declared.Role.{Role}
use Rattle.file_format.specs.declared.Role.TheVariants as role
use Rattle.input.specs.declared.ReadError.TheVariants.{Absent, Unreadable}
use Rattle.input.specs.Reading.{FileFound}

-- "`pattern.cir` and `board.cir`": the name that a file has in its role
abbrev pub file_name_of : Role → List ℕ
file_name_of role.Pattern = bytes "pattern.cir"
file_name_of role.Board = bytes "board.cir"
file_name_of role.AnyPattern = []

-- "absent counts as empty": how many bytes are held of a file that was read so; None where it is there and cannot be read
unfoldable pub held_of : FileFound → Option ℕ
held_of (Ok size) = Some size
held_of (Err Absent) = Some 0
held_of (Err Unreadable) = None
