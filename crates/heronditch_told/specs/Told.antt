-- What the numbers stand for by which a host program tells an edition, a role or a direction. Every number has an
-- answer, so that no call gets a refusal which documents 01 and 02 do not have: a number below the first name's counts
-- as the first, and one above the last name's as the last.
use Rattle.std.specs.Prelude.{Bool, cond, List, ℕ, ltb}
use Rattle.file_format.specs.declared.Edition.{Edition}
use Rattle.file_format.specs.declared.Edition.TheVariants.{First, Second}
use Rattle.file_format.specs.Layout.{CircuitFile, in_edition}
use Rattle.file_format.specs.declared.Role.{Role}
use Rattle.file_format.specs.declared.Role.TheVariants as role
use Rattle.heronditch_told.specs.declared.FileRole.{FileRole}
use Rattle.heronditch_told.specs.declared.FileRole.TheVariants.{Pattern, Board}
use Rattle.graph_neighbours.specs.declared.neighbours.Direction.{Direction}
use Rattle.graph_neighbours.specs.declared.neighbours.Direction.TheVariants.{Forward, Backward}

-- "Calls say which edition each file is": 1 the first, 2 the second
unfoldable pub edition_of : ℕ → Edition
edition_of number = cond (ltb number 2) First Second

-- 3 the third edition, which the whole-board call's pattern alone may be
unfoldable pub is_third : ℕ → Bool
is_third number = ltb 2 number

-- a circuit file as a host program hands it over: its bytes, and the number of its edition
abbrev pub told : List ℕ → ℕ → CircuitFile
told bytes edition = in_edition (edition_of edition) bytes

-- "Reading and writing are told the role": 1 a pattern, 2 a board
unfoldable pub role_of : ℕ → FileRole
role_of number = cond (ltb number 2) Pattern Board

-- the role by which it is read and written: of a pattern 6 is asked, and 11
unfoldable pub as_role : FileRole → Role
as_role Pattern = role.Pattern
as_role Board = role.Board

-- "The neighbour lookup, told a direction": 1 what a node drives, 2 what drives it
unfoldable pub direction_of : ℕ → Direction
direction_of number = cond (ltb number 2) Forward Backward
