-- The check and the finder: every place that the finder finds gets a yes, and a yes means that the finder finds a place, which contains all that
-- was proposed. Assumes nothing.
use Rattle.std.specs.Prelude.{◌≡◌, ◌<◌}
use Rattle.base_lists.specs.Kit.{refl, subst, ⊎_elim, List, ℕ, T, length, get_or}
use Rattle.base_lists.proofs.Tests.{decide}
use Rattle.graph.specs.Circuit.{Circuit, LinkAt}
use Rattle.graph.specs.Graph.{Contains}
use Rattle.place.specs.Match.{found, place_nodes, place_links, marked_graph}
use Rattle.place.proofs.Ball.{Admissible}
use Rattle.place.proofs.Marks.{nodes-marks, links-marks, link-marked}
use Rattle.place.proofs.Place.{place_graph, place_found, place_none}
use Rattle.proposal.specs.Check.{checks}
use Rattle.proposal.proofs.Perfect.{checks-iff}

module _ {pattern board : Circuit} (a : Admissible pattern board) (parallel : length board.starts ≡ length board.ends) (w r : ℕ) where
  -- "every place the finder returns at that radius gets a yes"
  pub place-checks : T (found pattern board w r) → T (checks pattern board w r (place_nodes pattern board w r) (place_links pattern board w r))
  unfolding marked_graph
  place-checks f =
      let place = place_found a w r f in
      let nodes = nodes-marks pattern board w r in
      let links = links-marks pattern board w r in
      (checks-iff a w r (place_nodes pattern board w r) (place_links pattern board w r) parallel).1
      (record {
        bytes_of_nodes = λ v h. nodes.bytes v (subst (λ m. v < m) nodes.size h);
        bytes_of_links = λ i h. links.bytes i (subst (λ m. i < m) links.size h);
        ends = λ i t.
            let h = ((link-marked pattern board w r i).0 t).0 in
            let l : LinkAt board.starts board.ends (get_or board.starts i 0) (get_or board.ends i 0) i =
            record { in_starts = h; in_ends = subst (λ m. i < m) parallel h; start = refl; end = refl } in
            (place.perfect.subgraph.starts _ _ (i, l, t), place.perfect.subgraph.ends _ _ (i, l, t));
        perfect = place.perfect;
      })

  -- a yes means that there is a place,
  module _ (nodes links : List ℕ) (yes : T (checks pattern board w r nodes links)) where
    pub yes-found : T (found pattern board w r)
    yes-found =
        ⊎_elim (λ t. t)
        (λ f. absurd (place_none a w r f (marked_graph board nodes links) ((checks-iff a w r nodes links parallel).0 yes).perfect))
        (decide (found pattern board w r))

    -- and that it contains all that was proposed
    pub yes-contained : Contains (place_graph pattern board w r) (marked_graph board nodes links)
    yes-contained = (place_found a w r yes-found).contains (marked_graph board nodes links) ((checks-iff a w r nodes links parallel).0 yes).perfect
