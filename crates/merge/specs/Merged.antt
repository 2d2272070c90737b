-- The merged pattern, computed. (Class and merged pattern are document 01's terms: the classes are those of mutual matching, and the
-- merged pattern is the quotient graph.) proofs/ ties this to simulation's Quotient.
use Rattle.std.specs.Prelude.{◌≡◌, ◌&&◌}
use Rattle.base_lists.specs.Kit.{Bool, List, ℕ, eqb, length, get_or}
use Rattle.base_lists.specs.Below.{count_below, least_below, collect}
use Rattle.base_lists.specs.List.{any_below, tabulate}
use Rattle.graph.specs.Circuit.{Circuit}
use Rattle.graph.specs.Pairs.{pair_starts, pair_ends}
use Rattle.table.specs.Host.{everything}
use Rattle.table.specs.Row.{in_table, last_table}

-- ---- classes, from a table t of n parts on themselves

-- "each matches the other in the pattern's table on itself"
unfoldable pub equivalent : List ℕ → ℕ → ℕ → Bool
equivalent t u v = in_table t u v && in_table t v u

-- the smallest part of u's class
unfoldable pub leader : ℕ → List ℕ → ℕ → ℕ
leader n t u = least_below n (equivalent t u)

unfoldable pub is_leader : ℕ → List ℕ → ℕ → Bool
is_leader n t u = eqb (leader n t u) u

-- "Classes are numbered by their smallest part, rising."
unfoldable pub class_in : ℕ → List ℕ → ℕ → ℕ
class_in n t u = count_below (leader n t u) (is_leader n t)

-- ---- the classes of a pattern

-- the pattern's table on itself
unfoldable pub self_table : Circuit → List ℕ
self_table p = last_table p p (everything p)

unfoldable pub class_of : Circuit → ℕ → ℕ
class_of p u = class_in (length p.labels) (self_table p) u

-- the smallest part of each class, class by class
unfoldable pub leaders : Circuit → List ℕ
leaders p = collect (length p.labels) (is_leader (length p.labels) (self_table p)) (λ u. u)

unfoldable pub class_count : Circuit → ℕ
class_count p = count_below (length p.labels) (is_leader (length p.labels) (self_table p))

-- "the class of each part, a byte each"
unfoldable pub classes : Circuit → List ℕ
classes p = tabulate (length p.labels) (class_of p)

-- ---- the pattern that a grouping of the parts makes: class gives the group of each part, and there are k groups, numbered from 0

-- two parts are ".. of the same kind"
unfoldable pub SameKind : Circuit → ℕ → ℕ → Type 0
SameKind p u v = get_or p.labels u 0 ≡ get_or p.labels v 0

-- the smallest member of group a
unfoldable pub first_member : Circuit → (ℕ → ℕ) → ℕ → ℕ
first_member p class a = least_below (length p.labels) (λ u. eqb (class u) a)

-- some of the first j links goes from a member of a to a member of b
unfoldable pub joins : (ℕ → ℕ) → List ℕ → List ℕ → ℕ → ℕ → ℕ → Bool
joins class starts ends j a b = any_below j (λ i. eqb (class (get_or starts i 0)) a && eqb (class (get_or ends i 0)) b)

-- "a link from class a to class b, b equal to a included, where some member of a has a link to some member of b"
unfoldable pub linked : Circuit → (ℕ → ℕ) → ℕ → ℕ → Bool
linked p class = joins class p.starts p.ends (length p.starts)

-- "The merged pattern has a part per class, of the same kind, and a link ..": for any grouping
unfoldable pub grouped : Circuit → (ℕ → ℕ) → ℕ → Circuit
grouped p class k =
    record {
      labels = tabulate k (λ a. get_or p.labels (first_member p class a) 0);
      starts = pair_starts k (linked p class);
      ends = pair_ends k (linked p class);
    }

-- ---- the merged pattern

unfoldable pub merged : Circuit → Circuit
merged p = grouped p (class_of p) (class_count p)
