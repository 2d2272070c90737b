-- The centre's component in the whole board's match graph. Where walks of r matching links lead to all of it, or the board's links
-- to as many nodes with its number as it has, the ball holds it, and the place is the component with its matching links; else the place comes from those nodes
-- of the ball that have its number. Assumes nothing.
use Rattle.std.specs.Prelude.{◌≡◌, ◌++◌, ◌≤◌, ◌<◌}
use Rattle.base_lists.specs.Kit.{◌∙◌, sym, ap, refl, subst, ⊎_elim, inl, inr, Bool, true, List, ℕ, suc, le_antisymm, T, eqb, eqb→eq, length, get_or, take-length, arith, eq-eqb}
use Rattle.base_lists.specs.List.{Occurs, Below}
use Rattle.base_lists.proofs.Tests.{true-T, any_at, at-any}
use Rattle.graph.specs.Bfs.{SearchState, bfs, adjacent, Found as Searched}
use Rattle.graph.specs.Circuit.{Circuit, HasLink}
use Rattle.graph.specs.Graph.{Walk, stay, step}
use Rattle.graph.specs.Search.{far, inside}
use Rattle.graph.proofs.BfsScan.{occurs-append}
use Rattle.graph.proofs.Ball.{inside-mono, walk-ball}
use Rattle.graph_search.specs.Until.{Until}
use Rattle.graph_search.proofs.Onward.{until-walk}
use Rattle.table.specs.Fill.{listed, marks_of, NodeList}
use Rattle.table.specs.First.{Written}
use Rattle.table.specs.Host.{Taken, everything}
use Rattle.table.specs.Prepared.{Tables}
use Rattle.table.proofs.Begun.{copied-begins, inside-marks}
use Rattle.table.proofs.Host.{everything-taken}
use Rattle.table.proofs.Meaning.{last_fits}
use Rattle.table.proofs.Sets.{fits_word}
use Rattle.place.specs.declared.Around.{Around}
use Rattle.place.specs.Match.{ball_of, found, match_starts, match_ends}
use Rattle.place.specs.Find.{Sought, Located}
use Rattle.place.specs.Spread.{matched, Reached, Spread, Lists}
use Rattle.place.proofs.Find.{tabled-joins, ball-list, ball-marks, whole-located, whole-found, cut-seen}
use Rattle.place.proofs.Links.{match-kept}
use Rattle.place_components.specs.Components.{MatchTable, same_component, Gathered}
use Rattle.place_components.proofs.Lists.{first-list, having-from, having-to, having-list}
use Rattle.place_components.proofs.ComponentNumbers.{match-adjacency, spread_same, some-few, some-lists, until-lists}
use Rattle.report_locate.specs.Source.{Source, CentreLabelled, Cut}
use Rattle.report_locate.proofs.Centre.{source-tabled, source-long, source-few}

module _ {pattern board : Circuit} {t : Tables} {table : List ℕ} {r : ℕ} (s : Source pattern board t table r) where
  abbrev n : ℕ
  n = length board.labels

  -- the whole board's table is one of sets
  pub source-match : MatchTable t table
  source-match =
      record {
        pattern = pattern;
        board = board;
        tabled = source-tabled s;
        long = source-long s;
        small = λ v. rw s.whole (fits_word s.ready.parts (last_fits pattern board (everything board)) v);
      }

  even : length board.starts ≡ length board.ends
  even = s.drawn.nodes.parallel

  module _ (c : ℕ) (h : c < length table) where
    node : c < n
    node = rw (source-long s) at h

    -- ---- the whole component

    few : suc (length table) < far
    few = omega (arith, source-few s)

    -- matching links are links: a walk along them is one along the board's
    kept-walk : {v w k : ℕ} → Walk (HasLink (match_starts pattern board table) (match_ends pattern board table)) v w k → Walk (HasLink board.starts board.ends) v w k
    kept-walk stay = stay
    kept-walk (step {w = v} {x = w} p l) =
        step (kept-walk p) (⊎_elim (λ q. inl ((match-kept pattern board table v w).0 q).0) (λ q. inr ((match-kept pattern board table w v).0 q).0) l)

    -- the search along matching links reaches the component: the ball holds it,
    module _ {componentOf : List ℕ} {size : ℕ} (l : CentreLabelled t table componentOf size c) {Enough : Type 0} {reached : SearchState}
        (u : Until (matched t table) (length table) c r Enough reached) (count : length reached.reached ≡ size) where
      -- and it is what is reached
      pub reached-lists : Lists reached.reached l.comp
      reached-lists = until-lists l.component few h (match-adjacency source-match) u count

      pub reached-held : (comp : List ℕ) → Spread (length table) c (matched t table) comp → (v : ℕ) → v < n → Reached comp v → T (inside (ball_of board c r) v)
      unfolding source-match ball_of
      reached-held comp k v m q =
          let h' : v < length table = rw (source-long s) m in
          let o = reached-lists.complete v (rw l.component.spread.size h') (spread_same k l.component.spread v h' q) in
          let walk = (until-walk (omega (arith, few)) h (match-adjacency source-match) u v o).1 in
          walk-ball (tabled-joins (source-tabled s)) c node (kept-walk walk.1) r walk.2

    -- ---- where the ball holds it

    module _ {dist : List ℕ} (k : Spread (length table) c (matched t table) dist) (f : get_or table c 0 ≡ 0 → ⊥)
        (held : (v : ℕ) → v < n → Reached dist v → T (inside (ball_of board c r) v)) where
      spread : Spread n c (matched t table) dist
      spread = rw (← source-long s) k

      pub held_found : found pattern board c r ≡ true
      held_found = whole-found (source-tabled s) even r node s.whole spread held f

      pub held-located : (nodes : List ℕ) → Lists nodes dist → Located pattern board t c r dist table nodes
      held-located = whole-located (source-tabled s) even r node s.whole spread held

    -- ---- the nodes in the component that a search of the board's links gathers

    -- what such a search reaches up to distance d is the ball
    abbrev reached_at : ℕ → List ℕ
    reached_at d = (bfs (adjacent t.offsets t.targets) n c d).reached

    searched : (d : ℕ) → Searched (length (reached_at d)) (bfs (adjacent t.offsets t.targets) n c d).dist (reached_at d) (bfs (adjacent t.offsets t.targets) n c d)
    searched d = record { distances = refl; count = refl; nodes = take-length (reached_at d) }

    ball : (d : ℕ) → marks_of n (reached_at d) ≡ ball_of board c d
    ball d = ap (marks_of n) (sym (take-length (reached_at d))) ∙ ball-marks (source-tabled s) c d node (searched d)

    occurs-taken : (nodes : List ℕ) (v : ℕ) → v < n → Occurs nodes v → Taken board (marks_of n nodes) v
    unfolding listed
    occurs-taken nodes v m (i, b, e) =
        record { below = m; marked = rw (inside-marks n nodes v m) (at-any (λ w. eqb w v) nodes i b (true-T (eq-eqb _ _ e))) }

    taken-occurs : (nodes : List ℕ) (v : ℕ) → Taken board (marks_of n nodes) v → Occurs nodes v
    unfolding listed
    taken-occurs nodes v m =
        let (i, b, e) = any_at (λ w. eqb w v) nodes (subst T (inside-marks n nodes v m.below) m.marked) in
        (i, b, eqb→eq _ _ e)

    module _ {componentOf : List ℕ} {size : ℕ} (l : CentreLabelled t table componentOf size c) {nodes : List ℕ}
        (g : Gathered (adjacent t.offsets t.targets) (length table) c r (same_component componentOf c) size nodes) where
      abbrev d : ℕ
      d = g.until.depth

      abbrev all : List ℕ
      all = g.all.reached

      abbrev test : ℕ → Bool
      test = same_component componentOf c

      -- what it has reached is the first of the ball of some radius, which is at most r
      first : all ++ g.until.rest ≡ reached_at d
      first = rw (source-long s) at g.until.first

      list : NodeList n nodes
      list =
          rw g.passed
          (having-list test
          (first-list all g.until.rest (subst (NodeList n) (take-length (reached_at d) ∙ sym first) (ball-list (source-tabled s) c d node (searched d)))))

      passed : (v : ℕ) → Occurs nodes v → Occurs all v × T (test v)
      passed v o = having-from test all v (rw g.passed at o)

      within : (v : ℕ) → Taken board (marks_of n nodes) v → Taken board (ball_of board c r) v
      unfolding ball_of
      within v m =
          let o = subst (λ (ns : List ℕ). Occurs ns v) first ((occurs-append v all g.until.rest).1 (inl (passed v (taken-occurs nodes v m)).0)) in
          let b = subst (λ (row : List ℕ). Taken board row v) (ball d) (occurs-taken (reached_at d) v m.below o) in
          record { below = m.below; marked = inside-mono n board.starts board.ends c d r v g.until.within b.marked }

      low : (w : ℕ) → Occurs nodes w → w < length table
      unfolding Below
      low w o = subst (λ (x : ℕ). x < length table) o.2 (rw (source-long s) (list.below o.0 o.1))

      only : (w : ℕ) → Occurs nodes w → Reached l.comp w
      only w o = l.only w (low w o) (eqb→eq _ _ (passed w o).1)

      in_table : NodeList (length table) nodes
      in_table = rw (source-long s) list

      most : length nodes ≤ size
      most = some-few l.component in_table only

      -- They are not as many as the component has: all of the ball of r is reached,
      module _ (f : length nodes ≡ size → ⊥) where
        full : all ≡ reached_at r
        full =
            rw (source-long s) at
            (ap (λ (s : SearchState). s.reached)
            (g.until.all (λ h. f (le_antisymm most (rw g.passed h)))))

        keeps : (v : ℕ) → Taken board (ball_of board c r) v → Reached l.comp v → Taken board (marks_of n nodes) v
        keeps v m q =
            let o = subst (λ (ns : List ℕ). Occurs ns v) (sym full) (taken-occurs (reached_at r) v (subst (λ (row : List ℕ). Taken board row v) (sym (ball r)) m)) in
            occurs-taken nodes v m.below
            (rw g.passed (having-to test all v o (true-T (eq-eqb _ _ (l.same v (rw (source-long s) m.below) q)))))

        -- and the place comes from them.
        pub gathered-cut : Cut pattern board t (record { centre = c; radius = r }) nodes
        gathered-cut =
            record {
              list = list;
              seen = cut-seen (source-tabled s) c r node {comp = l.comp} even s.whole (rw (← source-long s) l.component.spread) (marks_of n nodes) within keeps;
            }

      -- They are as many:
      module _ (count : length nodes ≡ size) where
        -- they are the component,
        pub gathered-lists : Lists nodes l.comp
        gathered-lists = some-lists l.component in_table only count

        -- and the ball holds it
        pub gathered-held : (comp : List ℕ) → Spread (length table) c (matched t table) comp → (v : ℕ) → v < n → Reached comp v → T (inside (ball_of board c r) v)
        gathered-held comp k v m q =
            let h' : v < length table = rw (source-long s) m in
            let o = gathered-lists.complete v (rw l.component.spread.size h') (spread_same k l.component.spread v h' q) in
            (within v (occurs-taken nodes v m o)).marked

  -- the whole board's sets at nodes that the place comes from are a table to begin with
  pub cut-sought : {around : Around} {nodes first : List ℕ} {m count : ℕ} → Cut pattern board t around nodes → around.centre < length table → m ≡ length table
      → Written m (λ v. get_or table v 0) nodes first count → Sought pattern board t around.centre around.radius nodes first
  cut-sought {nodes = nodes} k low q w =
      record {
        tabled = source-tabled s;
        centre = rw (source-long s) at low;
        list = k.list;
        seen = k.seen;
        begins = copied-begins pattern board nodes (q ∙ source-long s) s.drawn.parts.nodes (everything board) (λ v m _. everything-taken board v m) s.whole w;
      }
