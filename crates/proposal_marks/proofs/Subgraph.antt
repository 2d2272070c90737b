-- The bytes mark a subgraph with the centre: what the tests come to, one after another. Assumes nothing.
use Rattle.std.specs.Prelude.{◌≡◌}
use Rattle.base_lists.specs.Kit.{false, true, List, ℕ, get_or, eq-eqb, ne_eqb}
use Rattle.graph.specs.Circuit.{Circuit}
use Rattle.graph.specs.Search.{inside}
use Rattle.proposal.specs.Check.{bits, ends_marked, marks_subgraph}

module _ (board : Circuit) (w : ℕ) (nodes links : List ℕ) where
  pub nodes-not : bits nodes ≡ false → false ≡ marks_subgraph board w nodes links
  unfolding marks_subgraph
  nodes-not e = rw e

  module _ (n : bits nodes ≡ true) where
    pub links-not : bits links ≡ false → false ≡ marks_subgraph board w nodes links
    unfolding marks_subgraph
    links-not e = rw (n, e)

    module _ (l : bits links ≡ true) where
      pub centre-not : (get_or nodes w 0 ≡ 1 → ⊥) → false ≡ marks_subgraph board w nodes links
      unfolding marks_subgraph inside
      centre-not e = rw (n, l, ne_eqb (get_or nodes w 0) 1 e)

      pub ends-left : get_or nodes w 0 ≡ 1 → ends_marked board.starts board.ends nodes links ≡ marks_subgraph board w nodes links
      unfolding marks_subgraph inside
      ends-left e = rw (n, l, eq-eqb (get_or nodes w 0) 1 e)
