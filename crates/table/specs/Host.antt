-- The graph H in which a pattern is matched: "a board or a subgraph of one". It is given by a circuit, from which it takes some of the
-- nodes, one byte each (1: taken), and some of the links: those that the circuit lists and whose ends are both taken.
use Rattle.std.specs.Prelude.{◌≡◌, ◌⊎◌, ◌<◌}
use Rattle.base_lists.specs.Kit.{List, ℕ, T, length, get_or}
use Rattle.file_format.specs.Label.{kind_in, package_in}
use Rattle.graph.specs.Circuit.{Circuit, HasLink}
use Rattle.graph.specs.Graph.{Graph}
use Rattle.graph.specs.Search.{inside}
use Rattle.base_lists.specs.List.{tabulate}

-- a node of the circuit that is taken
pub record Taken (c : Circuit) (taken : List ℕ) (v : ℕ) : Type 0 where
  pub below : v < length c.labels
  pub marked : T (inside taken v)

unfoldable pub host_graph : Circuit → List ℕ → Graph
host_graph c taken = record { Node = Taken c taken; Link = λ v w. HasLink c.starts c.ends v w × Taken c taken v × Taken c taken w }

-- every node is taken: the whole board
unfoldable pub everything : Circuit → List ℕ
everything c = tabulate (length c.labels) (λ v. 1)

-- "From now a pattern part of kind 0 matches a node of every kind, and a board node of kind 0, which means unidentified, is matched by such a
-- part only. Every sentence of document 01 on equal kinds reads so". It is not symmetric.
abbrev pub KindMatches : ℕ → ℕ → Type 0
KindMatches part node = (part ≡ 0) ⊎ (part ≡ node)

-- "Two nodes are now equal when kinds agree by Ask 1 and packages are the same number, kind 0 included."
unfoldable pub KindsMatch : Circuit → Circuit → ℕ → ℕ → Type 0
KindsMatch pattern host u v =
    let part = get_or pattern.labels u 0 in
    let node = get_or host.labels v 0 in
    KindMatches (kind_in part) (kind_in node) × (package_in part ≡ package_in node)
