-- The check says yes exactly when the bytes mark a perfect subgraph around the centre: the marked links make a board of their own, in which a
-- perfect subgraph that has them all is the place. Assumes nothing.
use Rattle.std.specs.Prelude.{◌≡◌, ◌↔◌, ◌&&◌, ◌||◌, ◌≤◌, ◌<◌}
use Rattle.base_lists.specs.Kit.{sym, refl, subst, ⊎_elim, iff_rfl, iff_symm, Bool, not, List, ℕ, le_refl, le_step, T, leb, length, get_or, le-leb, leb-true}
use Rattle.base_lists.proofs.Tests.{both_true, both_left, both_right, decide, T_true, true-T, all_below-at, at-all_below, all-at, at_all, unless-at, at-unless}
use Rattle.base_lists.specs.List.{all_below}
use Rattle.graph.specs.Chosen.{chosen, ChosenLink}
use Rattle.graph.specs.Circuit.{Circuit, LinkAt, HasLink, graph_of, circuit_graph}
use Rattle.graph.specs.Graph.{Graph, Subgraph, Contains, Connected, Walk, stay, step, InBall, Ball}
use Rattle.graph.specs.Search.{inside}
use Rattle.graph.proofs.Ball.{inside-below, component-iff}
use Rattle.graph.proofs.Chosen.{chosen-iff, chosen-has, picked-parallel}
use Rattle.graph.proofs.Distance.{in_ball-iff}
use Rattle.simulation.specs.Perfect.{PerfectIn, SameGraph}
use Rattle.simulation.proofs.Same.{same_refl, perfect-same, perfect-within}
use Rattle.simulation.proofs.Walks.{wider-walk}
use Rattle.table.specs.Host.{KindsMatch}
use Rattle.place.specs.Match.{ball_of, ball_table, found, place_nodes, place_links, marked_graph}
use Rattle.place.proofs.Ball.{Admissible}
use Rattle.place.proofs.Links.{link-matches}
use Rattle.place.proofs.Marks.{link-marked}
use Rattle.place.proofs.Place.{place_graph, place_found, place_none}
use Rattle.proposal.specs.Check.{bits, ends_marked, marks_subgraph, in_row, fills, checks}
use Rattle.proposal.specs.Meaning.{PerfectMarks}

-- ---- tests

-- every byte is 0 or 1
pub bits_at : (bytes : List ℕ) → T (bits bytes) → (i : ℕ) → i < length bytes → get_or bytes i 0 ≤ 1
unfolding bits
bits_at bytes t i h = leb-true _ _ (T_true {b = leb (get_or bytes i 0) 1} (all-at (λ b. leb b 1) bytes t i h))

pub at_bits : (bytes : List ℕ) → ((i : ℕ) → i < length bytes → get_or bytes i 0 ≤ 1) → T (bits bytes)
unfolding bits
at_bits bytes f = at_all (λ b. leb b 1) bytes (λ i h. true-T (le-leb _ _ (f i h)))

-- every marked node of one row is marked in the other
pub row_at : (row nodes : List ℕ) → T (in_row row nodes) → (v : ℕ) → T (inside nodes v) → T (inside row v)
unfolding in_row
row_at row nodes t v m =
    unless-at (inside nodes v) (inside row v) (all_below-at (length nodes) (λ v. not (inside nodes v) || inside row v) t v (inside-below nodes v m)) m

pub at_row : (row nodes : List ℕ) → ((v : ℕ) → T (inside nodes v) → T (inside row v)) → T (in_row row nodes)
unfolding in_row
at_row row nodes f = at-all_below (length nodes) (λ v. not (inside nodes v) || inside row v) (λ v h. at-unless (inside nodes v) (inside row v) (f v))

-- ---- the board with the marked links alone

module _ {pattern board : Circuit} (a : Admissible pattern board) (links : List ℕ) where
  -- it is a board as good as the first
  pub with-admissible : Admissible pattern (chosen board links)
  unfolding chosen
  with-admissible =
      record {
        most = a.most;
        parallel = a.parallel;
        connected = a.connected;
        links =
            record {
              starts = λ v w l. a.links.starts v w (chosen-has board links v w ((chosen-iff board links v w).0 l));
              ends = λ v w l. a.links.ends v w (chosen-has board links v w ((chosen-iff board links v w).0 l));
            };
      }

-- which has as many starts as ends
pub with-parallel : (board : Circuit) (links : List ℕ) → length board.starts ≡ length board.ends → length (chosen board links).starts ≡ length (chosen board links).ends
unfolding chosen
with-parallel board links e = picked-parallel links board.starts board.ends e

-- its links are those of the subgraph that is marked
pub with-link :
    (board : Circuit) (nodes links : List ℕ) (v v' : ℕ) →
    (marked_graph board nodes links).Link v v' ↔ HasLink (chosen board links).starts (chosen board links).ends v v'
unfolding marked_graph ChosenLink
with-link board nodes links v v' = iff_symm (chosen-iff board links v v')

module _ {pattern board : Circuit} (a : Admissible pattern board) (w r : ℕ) (nodes links : List ℕ) where
  -- the marked subgraph, and the board with its links
  abbrev G : Graph
  G = marked_graph board nodes links

  abbrev H : Circuit
  H = chosen board links

  abbrev n : ℕ
  n = length H.labels

  -- the two boards have the same nodes, of the same kinds
  kinds-same : (u v : ℕ) → KindsMatch pattern H u v ↔ KindsMatch pattern board u v
  unfolding KindsMatch chosen
  kinds-same u v = iff_rfl

  -- ---- from a yes

  module _ (ends : (i : ℕ) → T (inside links i) → T (inside nodes (get_or board.starts i 0)) × T (inside nodes (get_or board.ends i 0))) where
    -- the ends of a marked link are marked
    link-ends : (v v' : ℕ) → G.Link v v' → T (inside nodes v) × T (inside nodes v')
    unfolding marked_graph
    link-ends v v' (i, l, t) =
        let (s, e) = ends i t in
        (subst (λ x. T (inside nodes x)) l.start s, subst (λ x. T (inside nodes x)) l.end e)

    -- so a walk along marked links from a marked node ends at one
    walk-marked : {v v' k : ℕ} → Walk G.Link v v' k → T (inside nodes v) → T (inside nodes v')
    walk-marked stay t = t
    walk-marked (step {w = x} {x = y} p l) t = ⊎_elim (λ h. (link-ends x y h).1) (λ h. (link-ends y x h).0) l

    module _ (near : (v : ℕ) → T (inside nodes v) → InBall (circuit_graph board) w r v) where
      -- the marks are those of a subgraph of the ball
      sub : Subgraph G (Ball (circuit_graph board) w r)
      unfolding marked_graph Ball circuit_graph graph_of HasLink
      sub =
          record {
            nodes = near;
            links = λ v v' (i, l, t). ((i, l), near v (link-ends v v' (i, l, t)).0, near v' (link-ends v v' (i, l, t)).1);
            starts = λ v v' l. (link-ends v v' l).0;
            ends = λ v v' l. (link-ends v v' l).1;
          }

      module _
          (centre : T (inside nodes w)) (f : T (found pattern H w n))
          (covers : (v : ℕ) → T (inside nodes v) → T (inside (place_nodes pattern H w n) v))
          (every : (i : ℕ) → i < length H.starts → T (inside (place_links pattern H w n) i))
        where
          place : PerfectIn (circuit_graph pattern) (KindsMatch pattern H) (Ball (circuit_graph H) w n) w (place_graph pattern H w n)
          place = (place_found (with-admissible a links) w n f).perfect

          -- every link of the place is a marked one
          place-link : (v v' : ℕ) → (place_graph pattern H w n).Link v v' → G.Link v v'
          unfolding marked_graph HasLink
          place-link v v' (i, l, t) = (with-link board nodes links v v').1 (i, l)

          -- the place in the board with the marked links is what is marked
          same : SameGraph (place_graph pattern H w n) G
          unfolding marked_graph HasLink Connected
          same =
              record {
                nodes = λ v. (
                  λ t. let (k, p) = place.connected w v place.centre t in walk-marked (wider-walk place-link p) centre,
                  covers v,
                );
                links = λ v v'. (
                  place-link v v',
                  λ l. let (i, k) = (with-link board nodes links v v').0 l in (i, k, every i k.in_starts),
                );
              }

          is-perfect : PerfectIn (circuit_graph pattern) (KindsMatch pattern board) (Ball (circuit_graph board) w r) w G
          is-perfect =
              perfect-within sub
              (perfect-same (same_refl (circuit_graph pattern)) (record { agree = λ u v m k. kinds-same u v }) (same_refl (Ball (circuit_graph H) w n)) same place)

  -- ---- to a yes

  module _ (p : PerfectIn (circuit_graph pattern) (KindsMatch pattern board) (Ball (circuit_graph board) w r) w G) where
    -- what is marked is joined to the centre by marked links
    in-ball : (v : ℕ) → G.Node v → InBall (circuit_graph H) w n v
    unfolding Connected Ball InBall circuit_graph graph_of chosen
    in-ball v t =
        let links' = (with-admissible a links).links in
        let (k, q) = p.connected w v p.centre t in
        (in_ball-iff links' w n v).0
        ((component-iff links' w n (le_step (le_refl _)) v).1 ((p.subgraph.nodes v t).0, (k, wider-walk (λ x y l. (with-link board nodes links x y).0 l) q)))

    sub-with : Subgraph G (Ball (circuit_graph H) w n)
    unfolding Ball circuit_graph graph_of
    sub-with =
        record {
          nodes = in-ball;
          links = λ v v' l. ((with-link board nodes links v v').0 l, in-ball v (p.subgraph.starts v v' l), in-ball v' (p.subgraph.ends v v' l));
          starts = p.subgraph.starts;
          ends = p.subgraph.ends;
        }

    -- it is perfect in the board with the marked links
    again : PerfectIn (circuit_graph pattern) (KindsMatch pattern H) (Ball (circuit_graph H) w n) w G
    again =
        perfect-within sub-with
        (perfect-same (same_refl (circuit_graph pattern)) (record { agree = λ u v m k. iff_symm (kinds-same u v) }) (same_refl (Ball (circuit_graph board) w r)) (same_refl G) p)

    is_found : T (found pattern H w n)
    is_found = ⊎_elim (λ t. t) (λ f. absurd (place_none (with-admissible a links) w n f G again)) (decide (found pattern H w n))

    -- so the place there contains it
    inside-place : Contains (place_graph pattern H w n) G
    inside-place = (place_found (with-admissible a links) w n is_found).contains G again

    node-placed : (v : ℕ) → T (inside nodes v) → T (inside (place_nodes pattern H w n) v)
    unfolding marked_graph
    node-placed v t = inside-place.nodes v t

    -- and has every link of that board
    link-placed : (i : ℕ) → i < length H.starts → i < length H.ends → T (inside (place_links pattern H w n) i)
    unfolding marked_graph HasLink
    link-placed i h h' =
        let l : LinkAt H.starts H.ends (get_or H.starts i 0) (get_or H.ends i 0) i = record { in_starts = h; in_ends = h'; start = refl; end = refl } in
        let (j, k, t) = inside-place.links (get_or H.starts i 0) (get_or H.ends i 0) ((with-link board nodes links (get_or H.starts i 0) (get_or H.ends i 0)).1 (i, l)) in
        let (b, m, c) = (link-marked pattern H w n j).0 t in
        (link-marked pattern H w n i).1 (
          h,
          subst T (sym (link-matches pattern H (ball_table pattern H w n) l)) (subst T (link-matches pattern H (ball_table pattern H w n) k) m),
          subst (λ x. T (inside (place_nodes pattern H w n) x)) k.start c,
        )

  -- ---- yes and no

  near-iff : (v : ℕ) → T (inside (ball_of board w r) v) ↔ InBall (circuit_graph board) w r v
  unfolding ball_of circuit_graph
  near-iff v = in_ball-iff a.links w r v

  -- a marked link is one of the links
  ends_at : T (ends_marked board.starts board.ends nodes links) → (i : ℕ) → T (inside links i) → T (inside nodes (get_or board.starts i 0)) × T (inside nodes (get_or board.ends i 0))
  unfolding ends_marked
  ends_at t i m =
      let s = inside nodes (get_or board.starts i 0) in
      let e = inside nodes (get_or board.ends i 0) in
      let b = unless-at (inside links i) (s && e) (all_below-at (length links) (λ i. not (inside links i) || (inside nodes (get_or board.starts i 0) && inside nodes (get_or board.ends i 0))) t i (inside-below links i m)) m in
      (both_left s e b, both_right s e b)

  at-ends : ((i : ℕ) → T (inside links i) → T (inside nodes (get_or board.starts i 0)) × T (inside nodes (get_or board.ends i 0))) → T (ends_marked board.starts board.ends nodes links)
  unfolding ends_marked
  at-ends f =
      at-all_below (length links) (λ i. not (inside links i) || (inside nodes (get_or board.starts i 0) && inside nodes (get_or board.ends i 0)))
      (λ i h.
      let s = inside nodes (get_or board.starts i 0) in
      let e = inside nodes (get_or board.ends i 0) in
      at-unless (inside links i) (s && e) (λ m. both_true s e (f i m).0 (f i m).1))

  -- what is tested, part by part
  abbrev bytes : Bool
  bytes = bits nodes && bits links

  abbrev joins : Bool
  joins = inside nodes w && ends_marked board.starts board.ends nodes links

  abbrev every-link : Bool
  every-link = all_below (length H.starts) (inside (place_links pattern H w n))

  abbrev whole : Bool
  whole = in_row (place_nodes pattern H w n) nodes && every-link

  abbrev near : Bool
  near = in_row (ball_of board w r) nodes

  abbrev placed : Bool
  placed = found pattern H w n && whole

  yes-perfect : T (checks pattern board w r nodes links) → PerfectMarks pattern board w r nodes links
  unfolding checks marks_subgraph fills
  yes-perfect t =
      let marks = both_left (bytes && joins) (near && placed) t in
      let rest = both_right (bytes && joins) (near && placed) t in
      let b = both_left bytes joins marks in
      let j = both_right bytes joins marks in
      let f = both_right near placed rest in
      let all = both_right (found pattern H w n) whole f in
      let ends = ends_at (both_right (inside nodes w) (ends_marked board.starts board.ends nodes links) j) in
      record {
        bytes_of_nodes = bits_at nodes (both_left (bits nodes) (bits links) b);
        bytes_of_links = bits_at links (both_right (bits nodes) (bits links) b);
        ends = ends;
        perfect =
            is-perfect ends (λ v m. (near-iff v).0 (row_at (ball_of board w r) nodes (both_left near placed rest) v m))
            (both_left (inside nodes w) (ends_marked board.starts board.ends nodes links) j) (both_left (found pattern H w n) whole f)
            (row_at (place_nodes pattern H w n) nodes (both_left (in_row (place_nodes pattern H w n) nodes) every-link all))
            (all_below-at (length H.starts) (inside (place_links pattern H w n)) (both_right (in_row (place_nodes pattern H w n) nodes) every-link all));
      }

  perfect-yes : length board.starts ≡ length board.ends → PerfectMarks pattern board w r nodes links → T (checks pattern board w r nodes links)
  unfolding checks marks_subgraph fills marked_graph Ball
  perfect-yes parallel m =
      let p = m.perfect in
      let b = both_true (bits nodes) (bits links) (at_bits nodes m.bytes_of_nodes) (at_bits links m.bytes_of_links) in
      let j = both_true (inside nodes w) (ends_marked board.starts board.ends nodes links) p.centre (at-ends m.ends) in
      let e = at-all_below (length H.starts) (inside (place_links pattern H w n)) (λ i h. link-placed p i h (rw (← with-parallel board links parallel) h)) in
      let all = both_true (in_row (place_nodes pattern H w n) nodes) every-link (at_row (place_nodes pattern H w n) nodes (node-placed p)) e in
      both_true (bytes && joins) (near && placed) (both_true bytes joins b j)
      (both_true near placed (at_row (ball_of board w r) nodes (λ v t. (near-iff v).1 (p.subgraph.nodes v t))) (both_true (found pattern H w n) whole (is_found p) all))

  -- The check says yes exactly when every byte is 0 or 1, every marked link has both its ends marked, and what is marked is a perfect subgraph
  -- around the centre at the radius, largest or not.
  pub checks-iff : length board.starts ≡ length board.ends → T (checks pattern board w r nodes links) ↔ PerfectMarks pattern board w r nodes links
  checks-iff parallel = (yes-perfect, perfect-yes parallel)
