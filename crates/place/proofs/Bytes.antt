-- What the filling functions write is the place: its bytes and its table. Assumes nothing.
use Rattle.std.specs.Prelude.{◌≡◌, ◌&&◌, ◌<◌}
use Rattle.base_lists.specs.Kit.{◌∙◌, sym, ap, refl, subst, Bool, false, true, cond, not, List, ℕ, eqb, length, get_or}
use Rattle.base_lists.specs.List.{tabulate, Below}
use Rattle.base_lists.proofs.Tables.{is-tabulate, tabulate-same}
use Rattle.base_lists.proofs.Tests.{is-cond, cond-not}
use Rattle.base_bits.specs.Bits.{intersects, union_over}
use Rattle.graph.specs.Circuit.{Circuit}
use Rattle.graph.specs.Search.{far, inside}
use Rattle.place.specs.Match.{ball_table, matches, link_matches, place_nodes, place_links, place_table}
use Rattle.place.specs.Bytes.{bytes_of_nodes, node_sets, driven_by, link_byte, bytes_of_links}
use Rattle.place.proofs.Marks.{nodes-marks}

-- choosing by the test and by its opposite
both-chosen : (a b : Bool) → ◌≡◌ {A = ℕ} (cond b 0 (cond a 1 0)) (cond (a && not b) 1 0)
both-chosen true true = refl
both-chosen true false = refl
both-chosen false true = refl
both-chosen false false = refl

-- The entries of a search that reaches the place's nodes.
module _
    (pattern board : Circuit) (w r : ℕ) (dist : List ℕ) (size : length dist ≡ length board.labels)
    (reached : (v : ℕ) → v < length board.labels → inside (place_nodes pattern board w r) v ≡ not (eqb (get_or dist v 0) far))
  where
    node-below : (v : ℕ) → v < length dist → v < length board.labels
    node-below v h = subst (λ m. v < m) size h

    pub bytes-nodes : bytes_of_nodes dist ≡ place_nodes pattern board w r
    unfolding bytes_of_nodes inside
    bytes-nodes =
        let marks = nodes-marks pattern board w r in
        sym
        (is-tabulate (length dist) _ (place_nodes pattern board w r) (marks.size ∙ sym size)
        (λ v h.
        is-cond _ (marks.bytes v (node-below v h)) ∙ ap (λ (b : Bool). cond b 1 0) (reached v (node-below v h)) ∙ cond-not (eqb (get_or dist v 0) far) 1))

    pub sets-table : node_sets dist (ball_table pattern board w r) ≡ place_table pattern board w r
    unfolding node_sets place_table
    sets-table =
        tabulate-same (length dist) _ _
        (λ v h.
        sym (cond-not (eqb (get_or dist v 0) far) _) ∙ ap (λ (b : Bool). cond b (get_or (ball_table pattern board w r) v 0) 0) (sym (reached v (node-below v h))))
        ∙ ap (λ (m : ℕ). tabulate m (λ v. cond (inside (place_nodes pattern board w r) v) (get_or (ball_table pattern board w r) v 0) 0)) size

    pub bytes-links :
        (succ : List ℕ) → Below (length board.labels) board.starts →
        ((v v' : ℕ) → intersects (union_over succ (get_or (ball_table pattern board w r) v 0)) (get_or (ball_table pattern board w r) v' 0) ≡ matches pattern (ball_table pattern board w r) v v') →
        bytes_of_links board.starts board.ends succ dist (ball_table pattern board w r) ≡ place_links pattern board w r
    unfolding bytes_of_links link_byte place_links link_matches driven_by Below
    bytes-links succ below test =
        tabulate-same (length board.starts) _ _
        (λ i h.
        let v = get_or board.starts i 0 in
        let v' = get_or board.ends i 0 in
        ap (λ (a : Bool). cond (eqb (get_or dist v 0) far) 0 (cond a 1 0)) (test v v')
        ∙ both-chosen (matches pattern (ball_table pattern board w r) v v') (eqb (get_or dist v 0) far)
        ∙ ap (λ (b : Bool). cond (matches pattern (ball_table pattern board w r) v v' && b) 1 0) (sym (reached v (below i h))))
