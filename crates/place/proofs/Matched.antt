-- Over prepared tables the search follows the match graph's links, so that what it reaches is the centre's component; and the ball's list
-- is the list of the first search. Assumes nothing.
use Rattle.std.specs.Prelude.{◌≡◌, ◌↔◌, ◌≤◌, ◌<◌, ◌^◌}
use Rattle.base_lists.specs.Kit.{◌∙◌, sym, ap, refl, subst, ⊎_elim, inl, inr, Bool, false, true, cond, not, List, ℕ, le_of_lt, T, eqb, eqb→eq, length, get_or, take, arith, eq-eqb, ne_eqb}
use Rattle.base_lists.specs.List.{Occurs, any, Below}
use Rattle.base_lists.proofs.Tests.{same_test, true-T, any_at, at-any}
use Rattle.base_lists.proofs.Tables.{tabulate-same}
use Rattle.base_bits.specs.Bits.{intersects, union_over}
use Rattle.graph.specs.Bfs.{bfs, adjacent, Adjacency, Found}
use Rattle.graph.specs.Circuit.{Circuit, HasLink}
use Rattle.graph.specs.Net.{driven, driving, NetOf}
use Rattle.graph.specs.Search.{far, inside, distances}
use Rattle.graph.proofs.Ball.{Within}
use Rattle.graph.proofs.Bfs.{bfs-ready}
use Rattle.graph.proofs.BfsScan.{occurs-append}
use Rattle.graph.proofs.Distance.{ball-distances}
use Rattle.graph.proofs.Measures.{search-distances}
use Rattle.graph.proofs.Net.{net-of, net-few, driven-link, driving-link, net-adjacency}
use Rattle.graph.proofs.Reached.{bfs-listed}
use Rattle.table.specs.Fill.{listed, marks_of, Distinct, NodeList}
use Rattle.table.specs.Prepared.{succ_of, pred_of, Tables, masks_of, Prepared}
use Rattle.table.proofs.Prepare.{masked-succ, masked-pred}
use Rattle.place.specs.Match.{ball_of, distances_of, matches, match_starts, match_ends, component}
use Rattle.graph_follow.specs.Follow.{meeting}
use Rattle.graph_follow.proofs.Following.{meeting-occurs}
use Rattle.place.specs.Spread.{matched, Spread}
use Rattle.place.proofs.Links.{match-kept, match-within}
use Rattle.place.proofs.Masks.{MaskTable, mask-table, matches-forward, matches-backward}
use Rattle.place.proofs.Spread.{matched-below, spread-ball}

-- the masks that the table layer prepares are such tables
masks-hold : (n : ℕ) (keys values masks : List ℕ) → n ≤ 32 → masks ≡ masks_of 32 keys values → Below n keys → MaskTable keys values masks
unfolding Below HasLink
masks-hold n keys values masks few e below =
    subst (MaskTable keys values) (sym e) (mask-table 32 keys values (λ u x (i, l). let h = subst (λ y. y < n) l.start (below i l.in_starts) in omega arith))

-- ---- the ball: the neighbour tables are enough, whatever the pattern

module _ (board : Circuit) {offsets stretches : List ℕ} (net : NetOf (length board.labels) board.starts board.ends offsets stretches)
    (links : Within (length board.labels) board.starts board.ends) where
  abbrev n : ℕ
  n = length board.labels

  few : n < far
  few = omega (arith, net-few (net-of net))

  -- the neighbours of a node over the tables as they stand
  abbrev around : ℕ → List ℕ
  around = adjacent offsets stretches

  board-adjacency : Adjacency n around (HasLink board.starts board.ends)
  board-adjacency = net-adjacency net

  module _ (c r : ℕ) (h : c < n) where
    -- the nodes that the first search lists
    abbrev ball_list : List ℕ
    ball_list = (bfs around n c r).reached

    ball-list : NodeList n ball_list
    unfolding Distinct Below
    ball-list =
        let k = bfs-ready n c around (HasLink board.starts board.ends) few h board-adjacency r in
        let l = bfs-listed n around c r h few board-adjacency.inside in
        record { below = k.inside; distinct = l.distinct; short = omega (arith, k.counted, few) }

    -- a node is listed exactly where its entry is not `far`
    listed-test : (v : ℕ) → v < n → any (λ w. eqb w v) ball_list ≡ not (eqb (get_or (bfs around n c r).dist v 0) far)
    listed-test v m =
        let l = bfs-listed n around c r h few board-adjacency.inside in
        same_test
        (λ t. let (i, b, e) = any_at (λ w. eqb w v) ball_list t in true-T (ap not (ne_eqb _ far (l.near v (i, b, eqb→eq _ _ e)))))
        (λ t.
        let (i, b, e) = l.complete v m (λ q. subst T (ap not (eq-eqb _ far q)) t) in
        at-any (λ w. eqb w v) ball_list i b (true-T (eq-eqb _ _ e)))

    -- the entries are the distances
    entries : (bfs around n c r).dist ≡ distances n board.starts board.ends c r
    entries = search-distances links around board-adjacency c h few r

    -- the list is the ball
    ball-marks : marks_of n ball_list ≡ ball_of board c r
    unfolding marks_of ball_of listed
    ball-marks =
        tabulate-same n _ _ (λ v m. ap (λ (b : Bool). cond b 1 0) (listed-test v m ∙ ap (λ (l : List ℕ). not (eqb (get_or l v 0) far)) entries) ∙ turned (eqb (get_or (distances n board.starts board.ends c r) v 0) far))
        ∙ sym (ball-distances links c r (le_of_lt few))
      where
        turned : (b : Bool) → ◌≡◌ {A = ℕ} (cond (not b) 1 0) (cond b 0 1)
        turned true = refl
        turned false = refl

    -- so the first nodes of the queue are, when the search is done
    module _ (k : ℕ) (dist queue : List ℕ) (f : Found k dist queue (bfs around n c r)) where
      pub found-short : k ≤ n
      found-short = let e = (bfs-ready n c around (HasLink board.starts board.ends) few h board-adjacency r).counted in omega (arith, f.count)

      pub found-list : NodeList n (take k queue)
      found-list = rw f.nodes ball-list

      pub found-distances : dist ≡ distances_of board c r
      unfolding distances_of
      found-distances = f.distances ∙ entries

      pub found-marks : marks_of n (take k queue) ≡ ball_of board c r
      found-marks = ap (marks_of n) f.nodes ∙ ball-marks

-- ---- the component

module _ {pattern board : Circuit} {t : Tables} (p : Prepared pattern board t) (links : Within (length board.labels) board.starts board.ends) where
  abbrev size : ℕ
  size = length board.labels

  module _ (parallel : length pattern.starts ≡ length pattern.ends) (sets : List ℕ) (small : (v : ℕ) → get_or sets v 0 < 2 ^ 32) where
    -- a node is looked at along a link exactly where the link matches
    pub forward-test : (v w : ℕ) → intersects (union_over (succ_of t.masks) (get_or sets v 0)) (get_or sets w 0) ≡ matches pattern sets v w
    forward-test v w =
        sym (matches-forward pattern parallel sets small (masks-hold _ pattern.starts pattern.ends (succ_of t.masks) p.parts (masked-succ p.masked) p.starts) v w)

    backward-test : (v w : ℕ) → intersects (union_over (pred_of t.masks) (get_or sets v 0)) (get_or sets w 0) ≡ matches pattern sets w v
    backward-test v w =
        sym (matches-backward pattern parallel sets small (masks-hold _ pattern.ends pattern.starts (pred_of t.masks) p.parts (masked-pred p.masked) p.ends) w v)

    abbrev Linked : ℕ → ℕ → Type 0
    Linked = HasLink (match_starts pattern board sets) (match_ends pattern board sets)

    forward-matched : (v w : ℕ) → v < size → Occurs (meeting (union_over (succ_of t.masks) (get_or sets v 0)) sets (driven t.offsets t.targets v)) w ↔ Linked v w
    forward-matched v w h =
        let kept = match-kept pattern board sets v w in
        let looked = meeting-occurs (union_over (succ_of t.masks) (get_or sets v 0)) sets (driven t.offsets t.targets v) w in (
          λ o. let (l, m) = looked.0 o in kept.1 ((driven-link p.net v w h).0 l, subst T (forward-test v w) m),
          λ k. let (l, m) = kept.0 k in looked.1 ((driven-link p.net v w h).1 l, subst T (sym (forward-test v w)) m),
        )

    backward-matched : (v w : ℕ) → v < size → Occurs (meeting (union_over (pred_of t.masks) (get_or sets v 0)) sets (driving t.offsets t.targets v)) w ↔ Linked w v
    backward-matched v w h =
        let kept = match-kept pattern board sets w v in
        let looked = meeting-occurs (union_over (pred_of t.masks) (get_or sets v 0)) sets (driving t.offsets t.targets v) w in (
          λ o. let (l, m) = looked.0 o in kept.1 ((driving-link p.net v w h).0 l, subst T (backward-test v w) m),
          λ k. let (l, m) = kept.0 k in looked.1 ((driving-link p.net v w h).1 l, subst T (sym (backward-test v w)) m),
        )

    -- the search follows the links of the match graph, either way
    pub matched-adjacency : Adjacency size (matched t sets) Linked
    unfolding matched Below
    matched-adjacency =
        record {
          inside = matched-below t sets (net-of p.net);
          joined = λ v w h.
              let both = occurs-append w (meeting (union_over (succ_of t.masks) (get_or sets v 0)) sets (driven t.offsets t.targets v))
              (meeting (union_over (pred_of t.masks) (get_or sets v 0)) sets (driving t.offsets t.targets v)) in (
                λ o. ⊎_elim (λ a. inl ((forward-matched v w h).0 a)) (λ a. inr ((backward-matched v w h).0 a)) (both.0 o),
                λ l. both.1 (⊎_elim (λ a. inl ((forward-matched v w h).1 a)) (λ a. inr ((backward-matched v w h).1 a)) l),
              );
        }

    -- What it reaches is the centre's component.
    pub spread-component :
        (c : ℕ) → c < size → (dist : List ℕ) → Spread size c (matched t sets) dist → (v : ℕ) → v < size →
        inside (component pattern board sets c) v ≡ not (eqb (get_or dist v 0) far)
    unfolding component
    spread-component c h dist g v m =
        let reached = spread-ball (match-within pattern board sets links) matched-adjacency h g v m in
        same_test
        (λ b. true-T (ap not (ne_eqb _ far (reached.0 b))))
        (λ b. reached.1 (λ q. subst T (ap not (eq-eqb _ far q)) b))
