-- The kept links bar, and with any one or more of them taken away the rest does not. Where there is no place all links together bar, which is
-- why the procedure can begin. Assumes nothing.
use Rattle.std.specs.Prelude.{◌≡◌, ◌↔◌, ◌<◌}
use Rattle.base_lists.specs.Kit.{◌∙◌, sym, ap, subst, not, List, ℕ, zero-le, T, length, get_or, set, length-replicate, get_or-replicate, arith, eq-eqb, T_not, not_T}
use Rattle.base_lists.proofs.Tests.{true-T}
use Rattle.graph.specs.Chosen.{ChosenLink}
use Rattle.graph.specs.Circuit.{Circuit, LinkAt, HasLink, graph_of, circuit_graph}
use Rattle.graph.specs.Graph.{Graph, Radius}
use Rattle.graph.specs.Search.{inside}
use Rattle.graph.proofs.Chosen.{chosen-has, chosen-all}
use Rattle.graph.proofs.Walks.{radius-unique}
use Rattle.simulation.specs.Closed.{Relation, ◌⊆◌}
use Rattle.simulation.proofs.Closed.{largest-closed-same}
use Rattle.simulation.proofs.Simulation.{along-wider}
use Rattle.table.specs.Host.{KindsMatch}
use Rattle.place.specs.Match.{found}
use Rattle.place.proofs.Ball.{Admissible, ball_graph}
use Rattle.barring.specs.Barring.{BarsIn, Bars}
use Rattle.barring.specs.Least.{bars, all_links, least}
use Rattle.barring.proofs.Meaning.{barring-more, bars-iff, bars-upward}
use Rattle.barring.proofs.Procedure.{length-drop, drop-passes, drop-needed, without_other}

-- the same links, said in another way
bars-same : {P : Graph} {Agree : Relation} {H : Graph} {w : ℕ} {L L' : Relation} → L ⊆ L' → L' ⊆ L → BarsIn P Agree H w L → BarsIn P Agree H w L'
bars-same there back b =
    record {
      S = b.S;
      largest = largest-closed-same (λ u v c. c) (λ u v c. c) (along-wider there) (along-wider back) (λ d v v' l. l) (λ d v v' l. l) b.largest;
      none = b.none;
    }

-- a chosen link other than the i-th is chosen without it
chosen-without :
    (c : Circuit) (marks : List ℕ) {i u u' : ℕ} → LinkAt c.starts c.ends u u' i → (x x' : ℕ) → ((x ≡ u) × (x' ≡ u') → ⊥) →
    ChosenLink c marks x x' → ChosenLink c (set marks i 0) x x'
unfolding ChosenLink
chosen-without c marks {i} l x x' other (j, k, t) = (j, k, subst T (sym (without_other marks i j differs)) t)
  where
    differs : j ≡ i → ⊥
    differs e =
        other (
          sym k.start ∙ ap (λ (n : ℕ). get_or c.starts n 0) e ∙ l.start,
          sym k.end ∙ ap (λ (n : ℕ). get_or c.ends n 0) e ∙ l.end,
        )

-- the byte of each link is 1 at first
all-marked : (m i : ℕ) → i < m → T (inside (all_links m) i)
unfolding inside
all-marked m i h = true-T (eq-eqb _ 1 (get_or-replicate m i 1 0 h))

-- so the test of all links is that of the pattern itself
pub all-test : (pattern board : Circuit) → length pattern.starts ≡ length pattern.ends → (w r : ℕ) →
    bars pattern board w r (all_links (length pattern.starts)) ≡ not (found pattern board w r)
unfolding bars
all-test pattern board parallel w r =
    let m = length pattern.starts in
    ap (λ (c : Circuit). not (found c board w r)) (chosen-all pattern (all_links m) parallel (all-marked m))

module _ {pattern board : Circuit} (a : Admissible pattern board) (w r : ℕ) where
  -- a set of the pattern's links bars in the ball around w at radius r
  abbrev pub BarsHere : Relation → Type 1
  BarsHere L = BarsIn (circuit_graph pattern) (KindsMatch pattern board) (ball_graph board w r) w L

  abbrev size : ℕ
  size = length pattern.starts

  -- ---- all links

  all-chosen : (circuit_graph pattern).Link ⊆ ChosenLink pattern (all_links size)
  unfolding circuit_graph graph_of HasLink ChosenLink
  all-chosen u u' (i, l) = (i, l, all-marked size i l.in_starts)

  -- There is no place exactly when all links together bar.
  pub all-bar : (T (found pattern board w r) → ⊥) ↔ BarsHere (circuit_graph pattern).Link
  unfolding circuit_graph graph_of
  all-bar = (
    λ none.
        bars-same (chosen-has pattern (all_links size)) all-chosen
        ((bars-iff pattern board a.most a.links w r (all_links size)).0 (rw (all-test pattern board a.parallel w r) (not_T (found pattern board w r) none))),
    λ b t.
        T_not (found pattern board w r)
        (rw (all-test pattern board a.parallel w r) at (barring-more pattern board a.most a.links w r (circuit_graph pattern).Link (all_links size) all-chosen b)) t,
  )

  -- ---- the kept links

  pub least_size : length (least pattern board w r) ≡ size
  unfolding least
  least_size = length-drop (bars pattern board w r) 0 size (all_links size) ∙ length-replicate size 1

  -- the links that are kept
  abbrev pub Kept : Relation
  Kept = ChosenLink pattern (least pattern board w r)

  module _ (none : T (found pattern board w r) → ⊥) where
    -- "The kept links bar,
    pub least-bars : BarsHere Kept
    unfolding least
    least-bars =
        (bars-iff pattern board a.most a.links w r (least pattern board w r)).0
        (drop-passes (bars pattern board w r) 0 size (all_links size) (rw (all-test pattern board a.parallel w r) (not_T (found pattern board w r) none)))

    -- the rest without the i-th, where that is one of them, does not
    without-one : (i : ℕ) → i < size → T (inside (least pattern board w r) i) → T (bars pattern board w r (set (least pattern board w r) i 0)) → ⊥
    unfolding least
    without-one i h t = drop-needed (bars pattern board w r) (bars-upward pattern board a.most a.links w r) 0 size (all_links size) i zero-le (omega arith) t

    -- and with any one or more of them taken away the rest does not": whatever set of kept links is left, if some kept link is not in it.
    pub least-needed : (L : Relation) → L ⊆ Kept → (u u' : ℕ) → Kept u u' → (L u u' → ⊥) → BarsHere L → ⊥
    unfolding ChosenLink
    least-needed L fewer u u' (i, l, t) gone b =
        without-one i l.in_starts t
        (barring-more pattern board a.most a.links w r L (set (least pattern board w r) i 0)
        (λ x x' m.
        chosen-without pattern (least pattern board w r) l x x'
        (λ (p, q). gone (subst (λ (y : ℕ). L y u') p (subst (λ (y : ℕ). L x y) q m)))
        (fewer x x' m))
        b)

-- ---- at the full pattern's radius

module _ (pattern board : Circuit) (w r : ℕ) (full : Radius (circuit_graph pattern) r) where
  -- barring is barring in the ball at that radius
  pub bars-radius : (L : Relation) →
      BarsIn (circuit_graph pattern) (KindsMatch pattern board) (ball_graph board w r) w L ↔ Bars (circuit_graph pattern) (KindsMatch pattern board) (circuit_graph board) w L
  bars-radius L = (
    λ b. record { radius = r; full = full; bars = b },
    λ b. subst (λ (d : ℕ). BarsIn (circuit_graph pattern) (KindsMatch pattern board) (ball_graph board w d) w L) (radius-unique b.full full) b.bars,
  )
