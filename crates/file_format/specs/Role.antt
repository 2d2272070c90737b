-- Roles: "Each role carries its own maxima".
use Rattle.std.specs.Prelude.{◌&&◌}
use Rattle.base_lists.specs.Kit.{Bool, ℕ, leb}
use Rattle.file_format.specs.declared.Role.{Role}
use Rattle.file_format.specs.declared.Role.TheVariants.{Pattern, Board, AnyPattern}
use Rattle.file_format.specs.declared.File.{File}
use Rattle.file_format.specs.declared.File.TheVariants as file

-- "a pattern has 1 to 32 parts and at most 256 links ..; a board has 0 to 512 nodes and at most 4,096 links". Any pattern, connected or not, is
-- a pattern in all but that (document 02, patterns in several bits).
abbrev pub min_nodes : Role → ℕ
min_nodes Pattern = 1
min_nodes Board = 0
min_nodes AnyPattern = 1

abbrev pub max_nodes : Role → ℕ
max_nodes Pattern = 32
max_nodes Board = 512
max_nodes AnyPattern = 32

abbrev pub max_links : Role → ℕ
max_links Pattern = 256
max_links Board = 4096
max_links AnyPattern = 256

abbrev pub in_range : Role → ℕ → ℕ → Bool
in_range role n m = leb (min_nodes role) n && (leb n (max_nodes role) && leb m (max_links role))

-- the file that a role's refusals name
abbrev pub file_of : Role → File
file_of Pattern = file.Pattern
file_of Board = file.Board
file_of AnyPattern = file.Pattern
