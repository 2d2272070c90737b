-- What the passes of merging ask and leave: from a pattern's table on itself to its classes and the merged pattern.
use Rattle.std.specs.Prelude.{◌≡◌, ◌≤◌, ◌<◌, ◌^◌}
use Rattle.base_lists.specs.Kit.{List, ℕ, length, get_or, take}
use Rattle.base_lists.specs.Below.{count_below, collect}
use Rattle.base_lists.specs.List.{tabulate}
use Rattle.graph.specs.Circuit.{Circuit, circuit}
use Rattle.file_format.specs.declared.Size.{Size}
use Rattle.merge.specs.Merged.{is_leader, class_in, class_count, classes, merged}
use Rattle.merge.specs.Steps.{Led}

-- What the passes ask of a table of parts on themselves: at most 32 sets of its own parts, and each part at or after the leader of its
-- class. A pattern's table on itself is such.
pub record SelfTable (t : List ℕ) : Type 0 where
  pub few : length t ≤ 32
  pub small : (v : ℕ) → get_or t v 0 < 2 ^ length t
  pub led : Led (length t) t

-- how many classes a table has
unfoldable pub leader_count : List ℕ → ℕ
leader_count t = count_below (length t) (is_leader (length t) t)

-- the class of each part
unfoldable pub class_numbers : List ℕ → List ℕ
class_numbers t = tabulate (length t) (class_in (length t) t)

-- the kind of the smallest part of each class, class by class
unfoldable pub leader_labels : List ℕ → List ℕ → List ℕ
leader_labels t kinds = collect (length t) (is_leader (length t) t) (λ u. get_or kinds u 0)

-- a pattern's classes, and its quotient by them, the merged pattern, at the front of three tables, of the size told
pub record Quotient (p : Circuit) (bytes kinds starts ends : List ℕ) (size : Size) : Type 0 where
  pub numbered : bytes ≡ classes p
  pub counted : size.nodes ≡ class_count p
  pub linked : size.links ≡ length (merged p).starts
  pub content : circuit (take size.nodes kinds) (take size.links starts) (take size.links ends) ≡ merged p
