-- The tables that a session lives in, and which machine they hold. The caller lends them to each call; what they hold is the session's own affair.
use Rattle.std.specs.Prelude.{◌≡◌, ◌&&◌, ◌<◌, ◌+◌}
use Rattle.base_lists.specs.Kit.{Bool, cond, List, ℕ, ltb, length, get_or, take, set}
use Rattle.file_format.specs.Circuit.{Bounded}
use Rattle.file_format.specs.declared.Role.TheVariants as role
use Rattle.graph.specs.Neighbours.{select}
use Rattle.graph.specs.Net.{forward_targets, backward_targets, driven, driving}
use Rattle.graph.specs.Search.{far}
use Rattle.table.specs.Fill.{all_nodes}
use Rattle.table.specs.Host.{everything}
use Rattle.table.specs.Prepared.{Masked}
use Rattle.table.specs.Row.{last_table}
use Rattle.session.specs.Machine.{Machine, is_left, board_left}

-- 66 numbers: the pattern's masks, and how many parts and nodes there are; the links, by their numbers, as session_strike/specs/Moves has them (1,026 offsets,
-- 8,192 numbers, 8,192 ends); and 512 sets
pub record State : Type 0 where
  pub fixed : List ℕ
  pub offsets : List ℕ
  pub numbers : List ℕ
  pub ends : List ℕ
  pub sets : List ℕ

abbrev pub state : List ℕ → List ℕ → List ℕ → List ℕ → List ℕ → State
state fixed offsets numbers ends sets = record { fixed = fixed; offsets = offsets; numbers = numbers; ends = ends; sets = sets }

-- the tables have their room
pub record StateRoom (s : State) : Type 0 where
  pub in_fixed : length s.fixed ≡ 66
  pub in_offsets : length s.offsets ≡ 1026
  pub in_numbers : length s.numbers ≡ 8192
  pub in_ends : length s.ends ≡ 8192
  pub in_sets : length s.sets ≡ 512

-- the other end of a link that is left; no node where it is out, or where the file has no such link
unfoldable pub end_left : Machine → List ℕ → ℕ → ℕ
end_left m ends i = cond (is_left m i) (get_or ends i 0) far

-- The links left are those of a machine: each node has the numbers of the file's links that start there, and of those that end there; and each
-- link that is left has its two ends.
pub record Linked (m : Machine) (offsets numbers ends : List ℕ) : Type 0 where
  pub by_start : (v : ℕ) → v < length m.board.labels → driven offsets numbers v ≡ select m.board.starts (all_nodes (length m.board.starts)) v
  pub by_end : (v : ℕ) → v < length m.board.labels → driving offsets numbers v ≡ select m.board.ends (all_nodes (length m.board.starts)) v
  pub at_ends : (i : ℕ) → get_or (forward_targets ends) i far ≡ end_left m m.board.ends i
  pub at_starts : (i : ℕ) → get_or (backward_targets ends) i far ≡ end_left m m.board.starts i

-- ---- a link taken out

-- the tables say that a link is left at a place: it has an end among so many nodes
unfoldable pub takes : List ℕ → ℕ → ℕ → Bool
takes ends nodes linkIndex = ltb linkIndex 4096 && ltb (get_or ends linkIndex far) nodes

-- the ends with the two entries of a link made no node's
abbrev pub ends_without : List ℕ → ℕ → List ℕ
ends_without ends linkIndex = set (set ends linkIndex far) (4096 + linkIndex) far

-- the tables with a link taken out, and these sets
abbrev pub link_out : State → ℕ → List ℕ → State
link_out s linkIndex sets = state s.fixed s.offsets s.numbers (ends_without s.ends linkIndex) sets

-- ---- which machine it is

-- The tables hold a machine: its sizes, masks and links, and the last table of the row, before the all-0 rule.
pub record Holds (m : Machine) (s : State) : Type 0 where
  pub pattern : Bounded role.Pattern m.pattern
  pub board : Bounded role.Board m.board
  pub bytes : length m.left ≡ length m.board.starts
  pub masked : Masked m.pattern.starts m.pattern.ends (take 64 s.fixed)
  pub parts : get_or s.fixed 64 0 ≡ length m.pattern.labels
  pub nodes : get_or s.fixed 65 0 ≡ length m.board.labels
  pub links : Linked m s.offsets s.numbers s.ends
  pub table : take (length m.board.labels) s.sets ≡ last_table m.pattern (board_left m) (everything (board_left m))
