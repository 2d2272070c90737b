-- A grouping of a pattern's parts, its members of the same kind, makes a pattern: it is the quotient of the pattern by the grouping, meets every
-- condition on the content of a pattern file, is no longer and has no larger radius. Assumes nothing.
use Rattle.std.specs.Prelude.{◌≡◌, ◌↔◌, ◌&&◌, ◌≤◌, ◌<◌}
use Rattle.base_lists.specs.Kit.{◌∙◌, sym, ap, refl, subst, ap₂, Bool, List, ℕ, zero-le, le_trans, lt_of_le_of_lt, T, eqb, ltb, eqb→eq, leb, lt→ltb, le→leb, length, get_or, arith, eq-eqb}
use Rattle.base_lists.specs.List.{all}
use Rattle.base_lists.proofs.Tests.{both_true, both_left, both_right, true-T, any_below-at, at-any_below, at_all}
use Rattle.base_lists.proofs.Tables.{length-tabulate, get_d_tabulate, tabulate-same}
use Rattle.base_lists.proofs.Below.{any_below-same, least_below-min, least_below-at, least_below-same}
use Rattle.graph.specs.Circuit.{Circuit, HasLink, graph_of, circuit_graph}
use Rattle.graph.specs.Graph.{Connected, Radius}
use Rattle.graph.specs.Search.{connected}
use Rattle.graph.specs.Rising.{LinksRise}
use Rattle.graph.proofs.Ball.{Within}
use Rattle.graph.proofs.Distance.{connected-iff, radius-is}
use Rattle.graph.proofs.Pairs.{pair_count, length-pair-starts, length-pair-ends, pair-link, pairs-le, pairs-rise, pairs-same}
use Rattle.simulation.specs.Grouping.{Grouping}
use Rattle.simulation.specs.Perfect.{SameGraph}
use Rattle.simulation.specs.Quotient.{QuotientGraph, QuotientAgree}
use Rattle.simulation.proofs.Grouping.{finer-more}
use Rattle.simulation.proofs.Quotient.{quotient-connected, quotient-radius}
use Rattle.simulation.proofs.Same.{same-symm, connected-same, radius-same}
use Rattle.file_format.specs.declared.Edition.{Edition}
use Rattle.file_format.specs.declared.Edition.TheVariants.{First, Second}
use Rattle.file_format.specs.Layout.{length_of}
use Rattle.file_format.specs.Links.{links_below}
use Rattle.file_format.proofs.Rising.{rise-test}
use Rattle.table.specs.Host.{KindsMatch}
use Rattle.table.proofs.Agreement.{kinds-part}
use Rattle.place.specs.Match.{radius_of}
use Rattle.merge.specs.Merged.{SameKind, first_member, joins, linked, grouped}
use Rattle.merge.proofs.Content.{PatternContent, some-parts, most-parts, most-links, content-within, content-connected, content-radius}
use Rattle.merge.proofs.Classes.{content-joins}

-- ---- sizes

module _ (p : Circuit) (class : ℕ → ℕ) (k : ℕ) where
  -- "a part per class"
  pub length-grouped-kinds : length (grouped p class k).labels ≡ k
  unfolding grouped
  length-grouped-kinds = length-tabulate k _

  pub length-grouped-starts : length (grouped p class k).starts ≡ pair_count k (linked p class)
  unfolding grouped
  length-grouped-starts = length-pair-starts _ _

  pub length-grouped-ends : length (grouped p class k).ends ≡ pair_count k (linked p class)
  unfolding grouped
  length-grouped-ends = length-pair-ends _ _

  grouped-parallel : length (grouped p class k).starts ≡ length (grouped p class k).ends
  grouped-parallel = length-grouped-starts ∙ sym length-grouped-ends

-- ---- the finest grouping: each part is a group

pub finest : (p : Circuit) → Grouping (circuit_graph p) (λ u v. u ≡ v) (λ u. u) (length p.labels)
unfolding circuit_graph graph_of
finest p = record { below = λ u h. h; onto = λ a h. (a, h, refl); alike = λ u v _ _ e. e }

module _ {p : Circuit} (c : PatternContent p) where
  -- ---- links

  -- "where some member of a has a link to some member of b"
  pub linked-iff :
      (class : ℕ → ℕ) (a b : ℕ) → T (linked p class a b) ↔
      ((u : ℕ) × (u' : ℕ) × HasLink p.starts p.ends u u' × (class u ≡ a) × (class u' ≡ b))
  unfolding linked joins HasLink
  linked-iff class a b = (
    λ t.
        let (i, h, s) = any_below-at (length p.starts) passes t in (
          start i,
          end i,
          (i, record { in_starts = h; in_ends = subst (λ x. i < x) c.parallel h; start = refl; end = refl }),
          eqb→eq _ a (both_left (eqb (class (start i)) a) (eqb (class (end i)) b) s),
          eqb→eq _ b (both_right (eqb (class (start i)) a) (eqb (class (end i)) b) s),
        ),
    λ (u, u', (i, l), e, e').
        at-any_below (length p.starts) passes i l.in_starts
        (both_true (eqb (class (start i)) a) (eqb (class (end i)) b)
        (true-T (eq-eqb _ a (ap class l.start ∙ e))) (true-T (eq-eqb _ b (ap class l.end ∙ e')))),
  )
    where
      start : ℕ → ℕ
      start i = get_or p.starts i 0

      end : ℕ → ℕ
      end i = get_or p.ends i 0

      passes : ℕ → Bool
      passes i = eqb (class (start i)) a && eqb (class (end i)) b

module _ {p : Circuit} (c : PatternContent p) {class : ℕ → ℕ} {k : ℕ} (g : Grouping (circuit_graph p) (SameKind p) class k) where
  below : (u : ℕ) → u < length p.labels → class u < k
  unfolding circuit_graph graph_of
  below u h = g.below u h

  pub grouped-some : 0 < k
  grouped-some = lt_of_le_of_lt zero-le (below 0 (some-parts c))

  -- the grouped pattern has a link from a to b exactly where they are linked groups, a itself included
  pub grouped-link :
      (a b : ℕ) → HasLink (grouped p class k).starts (grouped p class k).ends a b ↔ ((a < k) × (b < k) × T (linked p class a b))
  unfolding grouped
  grouped-link = pair-link k grouped-some (linked p class)

  -- ---- the graph

  -- "The merged pattern has a part per class .. and a link from class a to class b, b equal to a included, where some member of a has a
  -- link to some member of b."
  pub grouped-graph : SameGraph (circuit_graph (grouped p class k)) (QuotientGraph (circuit_graph p) class)
  unfolding circuit_graph graph_of QuotientGraph
  grouped-graph =
      record {
        nodes = λ a. (
          λ h. g.onto a (subst (λ x. a < x) (length-grouped-kinds p class k) h),
          λ (u, h, e). rw (length-grouped-kinds, ← e) (below u h),
        );
        links = λ a b. (
          λ l. let (h, h', t) = (grouped-link a b).0 l in (linked-iff c class a b).0 t,
          λ (u, u', l, e, e').
              (grouped-link a b).1 (
                subst (λ x. x < k) e (below u ((content-joins c).starts u u' l)),
                subst (λ x. x < k) e' (below u' ((content-joins c).ends u u' l)),
                (linked-iff c class a b).1 (u, u', l, e, e'),
              ),
        );
      }

  -- ---- kinds

  -- ".. of the same kind": the kind of a group is that of each of its members
  pub grouped-kind : (u : ℕ) → u < length p.labels → get_or (grouped p class k).labels (class u) 0 ≡ get_or p.labels u 0
  unfolding grouped first_member SameKind circuit_graph graph_of
  grouped-kind u h =
      let n = length p.labels in
      let member : T (eqb (class u) (class u)) = true-T (eq-eqb (class u) (class u) refl) in
      let first = lt_of_le_of_lt (least_below-min n (λ x. eqb (class x) (class u)) u member) h in
      get_d_tabulate k _ (class u) 0 (below u h)
      ∙ g.alike (first_member p class (class u)) u first h (eqb→eq _ _ (least_below-at n (λ x. eqb (class x) (class u)) first))

  pub grouped-agree : (board : Circuit) → QuotientAgree (circuit_graph p) class (KindsMatch p board) (KindsMatch (grouped p class k) board)
  unfolding circuit_graph graph_of
  grouped-agree board =
      record {
        agree = λ u v h. (
          kinds-part p (grouped p class k) board u (class u) v (sym (grouped-kind u h)),
          kinds-part (grouped p class k) p board (class u) u v (grouped-kind u h),
        );
      }

  -- ---- sizes

  pub grouped-parts-le : length (grouped p class k).labels ≤ length p.labels
  grouped-parts-le = rw length-grouped-kinds (finer-more (finest p) g (λ u v _ _ e. ap class e))

  -- each link of the grouped pattern comes from a link of the pattern, so that there are no more
  pub grouped-links-le : length (grouped p class k).starts ≤ length p.starts
  unfolding HasLink
  grouped-links-le =
      rw length-grouped-starts
      (pairs-le k (linked p class) (length p.starts) (λ j. class (get_or p.starts j 0)) (λ j. class (get_or p.ends j 0))
      (λ a b t.
      let (u, u', (j, l), e, e') = (linked-iff c class a b).0 t in
      (j, l.in_starts, ap class l.start ∙ e, ap class l.end ∙ e')))

  -- its file is no longer than the pattern's, in either edition
  pub grouped-length-le :
      (e : Edition) → length_of e (length (grouped p class k).labels) (length (grouped p class k).starts) ≤ length_of e (length p.labels) (length p.starts)
  grouped-length-le First = omega (arith, grouped-parts-le, grouped-links-le)
  grouped-length-le Second = omega (arith, grouped-parts-le, grouped-links-le)

  -- ---- conditions on the links

  pub grouped-within : Within (length (grouped p class k).labels) (grouped p class k).starts (grouped p class k).ends
  grouped-within =
      record {
        starts = λ a b l. rw length-grouped-kinds ((grouped-link a b).0 l).0;
        ends = λ a b l. rw length-grouped-kinds ((grouped-link a b).0 l).1;
      }

  -- the link with a number below theirs
  link_at :
      (i : ℕ) → i < length (grouped p class k).starts →
      HasLink (grouped p class k).starts (grouped p class k).ends (get_or (grouped p class k).starts i 0) (get_or (grouped p class k).ends i 0)
  unfolding HasLink
  link_at i h = (i, record { in_starts = h; in_ends = rw (← grouped-parallel p class k) h; start = refl; end = refl })

  grouped-below : T (links_below (length (grouped p class k).labels) (grouped p class k).starts (grouped p class k).ends)
  unfolding links_below
  grouped-below =
      let n = length (grouped p class k).labels in
      both_true (all (λ v. ltb v n) (grouped p class k).starts) (all (λ v. ltb v n) (grouped p class k).ends)
      (at_all _ (grouped p class k).starts (λ i h. lt→ltb _ _ (grouped-within.starts _ _ (link_at i h))))
      (at_all _ (grouped p class k).ends (λ i h. lt→ltb _ _ (grouped-within.ends _ _ (link_at i (rw (grouped-parallel p class k) h)))))

  -- "Links rise strictly by start, then by end"
  pub grouped-rise : LinksRise (grouped p class k).starts (grouped p class k).ends
  unfolding grouped
  grouped-rise = pairs-rise k grouped-some (linked p class)

  pub grouped-connected : Connected (circuit_graph (grouped p class k))
  grouped-connected = connected-same (same-symm grouped-graph) (quotient-connected (circuit_graph p) class (content-connected c))

  grouped-joined : T (connected (length (grouped p class k).labels) (grouped p class k).starts (grouped p class k).ends)
  unfolding circuit_graph
  grouped-joined = (connected-iff grouped-within).1 grouped-connected

  grouped-radius : Radius (circuit_graph (grouped p class k)) (radius_of (grouped p class k))
  unfolding circuit_graph radius_of
  grouped-radius = radius-is grouped-within (rw length-grouped-kinds grouped-some) grouped-joined

  -- "a merged pattern never has the larger radius"
  pub grouped-radius-le : radius_of (grouped p class k) ≤ radius_of p
  grouped-radius-le =
      quotient-radius (circuit_graph p) class (radius_of p) (radius_of (grouped p class k)) (content-radius c) (radius-same grouped-graph grouped-radius)

  -- ---- so the grouped pattern is a pattern

  pub grouped-content : PatternContent (grouped p class k)
  unfolding radius_of
  grouped-content =
      let n = length (grouped p class k).labels in
      let m = length (grouped p class k).starts in
      let some : 0 < n = rw length-grouped-kinds grouped-some in
      record {
        range = both_true (leb 1 n) (leb n 32 && leb m 256) (le→leb 1 n some)
            (both_true (leb n 32) (leb m 256) (le→leb n 32 (le_trans grouped-parts-le (most-parts c))) (le→leb m 256 (le_trans grouped-links-le (most-links c))));
        parallel = grouped-parallel p class k;
        below = grouped-below;
        rises = rise-test (grouped p class k).starts (grouped p class k).ends grouped-rise;
        joined = grouped-joined;
        narrow = le_trans grouped-radius-le c.narrow;
      }

-- ---- groupings that agree at the parts make one pattern

-- two numberings of the groups that agree at the links
pub joins-same :
    (class class' : ℕ → ℕ) (starts ends : List ℕ) (j : ℕ) → ((i : ℕ) → i < j → class (get_or starts i 0) ≡ class' (get_or starts i 0)) →
    ((i : ℕ) → i < j → class (get_or ends i 0) ≡ class' (get_or ends i 0)) → (a b : ℕ) → joins class starts ends j a b ≡ joins class' starts ends j a b
unfolding joins
joins-same class class' starts ends j s e a b = any_below-same j _ _ (λ i h. ap₂ (λ (x y : ℕ). eqb x a && eqb y b) (s i h) (e i h))

module _ {p : Circuit} (c : PatternContent p) where
  -- the link with a number below theirs
  link-of : (i : ℕ) → i < length p.starts → HasLink p.starts p.ends (get_or p.starts i 0) (get_or p.ends i 0)
  unfolding HasLink
  link-of i h = (i, record { in_starts = h; in_ends = subst (λ x. i < x) c.parallel h; start = refl; end = refl })

  pub grouped-same :
      (class class' : ℕ → ℕ) (k : ℕ) → ((u : ℕ) → u < length p.labels → class u ≡ class' u) → grouped p class k ≡ grouped p class' k
  unfolding grouped first_member linked
  grouped-same class class' k e =
      let kinds =
      tabulate-same k (λ a. get_or p.labels (first_member p class a) 0) (λ a. get_or p.labels (first_member p class' a) 0)
      (λ a h. ap (λ (x : ℕ). get_or p.labels x 0) (least_below-same (length p.labels) _ _ (λ u l. ap (λ (x : ℕ). eqb x a) (e u l)))) in
      let (starts, ends) = pairs-same k (linked p class) (linked p class') test in
      rw (kinds, starts, ends)
    where
      test : (a b : ℕ) → linked p class a b ≡ linked p class' a b
      test =
          joins-same class class' p.starts p.ends (length p.starts)
          (λ j h. e _ ((content-within c).starts _ _ (link-of j h))) (λ j h. e _ ((content-within c).ends _ _ (link-of j h)))
