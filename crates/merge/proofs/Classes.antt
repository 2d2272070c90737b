-- The classes of a pattern's parts: sharing a class is matching each other, and classes are numbered by their smallest part, rising.
-- Assumes nothing.
use Rattle.std.specs.Prelude.{◌≡◌, ◌↔◌, ◌≤◌, ◌<◌}
use Rattle.base_lists.specs.Kit.{◌∙◌, sym, ap, subst, Bool, ℕ, zero-le, lt_of_le_of_lt, T, eqb→eq, length, get_or, eq-eqb}
use Rattle.base_lists.specs.Below.{count_below}
use Rattle.base_lists.proofs.Tests.{both_true, both_left, both_right, true-T, same_test}
use Rattle.base_lists.proofs.Tables.{length-tabulate, get_d_tabulate}
use Rattle.base_lists.proofs.Below.{least_below-min, least_below-at, least_below-same, count_below-le}
use Rattle.base_lists.proofs.Ranks.{rank_lt, rank-injective, rank_rises, rank-onto, collect-rank}
use Rattle.graph.specs.Circuit.{Circuit, graph_of, circuit_graph}
use Rattle.simulation.specs.Closed.{Relation}
use Rattle.simulation.specs.Simulation.{Largest}
use Rattle.simulation.specs.Quotient.{Mutual, SharesClass, AgreeLaws, LinksJoin}
use Rattle.simulation.proofs.Quotient.{mutual-equivalence}
use Rattle.table.specs.Host.{everything, KindsMatch}
use Rattle.table.specs.Row.{in_table, InTable}
use Rattle.table.proofs.Agreement.{kinds-reflexive, kinds-compose}
use Rattle.table.proofs.Host.{within-joins, board-largest}
use Rattle.table.proofs.Meaning.{last_fits}
use Rattle.table.proofs.Sets.{SetsFit}
use Rattle.merge.specs.Merged.{equivalent, leader, is_leader, class_in, self_table, class_of, leaders, class_count, classes}
use Rattle.merge.proofs.Content.{PatternContent, some-parts, most-parts, content-within, content-connected}

-- the pairs of the pattern's table on itself
abbrev pub SelfPairs : Circuit → Relation
SelfPairs p = InTable (self_table p)

-- two parts match each other there
abbrev pub Equivalent : Circuit → ℕ → ℕ → Type 0
Equivalent p u v = T (equivalent (self_table p) u v)

-- the smallest part of a class, and which parts are such
abbrev pub leader_of : Circuit → ℕ → ℕ
leader_of p = leader (length p.labels) (self_table p)

abbrev pub leads : Circuit → ℕ → Bool
leads p = is_leader (length p.labels) (self_table p)

-- equal kinds, of parts with parts and of parts with nodes, have what merging needs
pub kinds-laws : (p board : Circuit) → AgreeLaws (circuit_graph p) (KindsMatch p p) (KindsMatch p board)
kinds-laws p board =
    record { reflexive = λ u n. kinds-reflexive p u; transitive = kinds-compose p p p; compose = kinds-compose p p board }

module _ (p : Circuit) where
  -- the table on itself has a set of parts for each part
  pub self-fits : SetsFit (length p.labels) (length p.labels) (self_table p)
  unfolding self_table
  self-fits = last_fits p p (everything p)

  -- the list of classes has at each part its class
  pub length-classes : length (classes p) ≡ length p.labels
  unfolding classes
  length-classes = length-tabulate _ _

  pub class-at : (u : ℕ) → u < length p.labels → get_or (classes p) u 0 ≡ class_of p u
  unfolding classes
  class-at u h = get_d_tabulate (length p.labels) (class_of p) u 0 h

module _ {p : Circuit} (c : PatternContent p) where
  -- ---- the table on itself

  pub content-joins : LinksJoin (circuit_graph p)
  content-joins = within-joins p (content-within c)

  -- the table on itself is the largest dual simulation of the pattern in itself
  pub self-largest : Largest (circuit_graph p) (KindsMatch p p) (circuit_graph p) (SelfPairs p)
  unfolding self_table
  self-largest = board-largest p p (most-parts c) (content-connected c) content-joins

  -- the test is mutual matching
  pub equivalent-iff : (u v : ℕ) → Equivalent p u v ↔ Mutual (SelfPairs p) u v
  unfolding equivalent
  equivalent-iff u v =
      let there = in_table (self_table p) u v in
      let back = in_table (self_table p) v u in
      (λ t. (both_left there back t, both_right there back t), λ (s, t). both_true there back s t)

  -- which is an equivalence of the parts
  equivalent-refl : (u : ℕ) → u < length p.labels → Equivalent p u u
  unfolding circuit_graph graph_of
  equivalent-refl u h = (equivalent-iff u u).1 ((mutual-equivalence content-joins (kinds-laws p p) self-largest).0 u h)

  pub equivalent-symm : (u v : ℕ) → Equivalent p u v → Equivalent p v u
  equivalent-symm u v t = let (s, r) = (equivalent-iff u v).0 t in (equivalent-iff v u).1 (r, s)

  equivalent-trans : (u x v : ℕ) → Equivalent p u x → Equivalent p x v → Equivalent p u v
  equivalent-trans u x v s t =
      (equivalent-iff u v).1
      ((mutual-equivalence content-joins (kinds-laws p p) self-largest).2 u x v ((equivalent-iff u x).0 s) ((equivalent-iff x v).0 t))

  -- ---- the smallest part of a class

  module _ (u : ℕ) (h : u < length p.labels) where
    -- a part comes at or after the leader of its class,
    pub leader-le : leader_of p u ≤ u
    unfolding leader
    leader-le = least_below-min (length p.labels) (equivalent (self_table p) u) u (equivalent-refl u h)

    pub leader-lt : leader_of p u < length p.labels
    leader-lt = lt_of_le_of_lt leader-le h

    -- which is a member of the class,
    pub leader-member : Equivalent p u (leader_of p u)
    unfolding leader
    leader-member = least_below-at (length p.labels) (equivalent (self_table p) u) leader-lt

    -- the smallest
    pub leader-min : (v : ℕ) → Equivalent p u v → leader_of p u ≤ v
    unfolding leader
    leader-min v t = least_below-min (length p.labels) (equivalent (self_table p) u) v t

  -- members of one class have one leader
  pub leader-same : (u v : ℕ) → Equivalent p u v → leader_of p u ≡ leader_of p v
  unfolding leader
  leader-same u v t =
      least_below-same (length p.labels) (equivalent (self_table p) u) (equivalent (self_table p) v)
      (λ i l. same_test (equivalent-trans v u i (equivalent-symm u v t)) (equivalent-trans u v i t))

  -- a leader leads itself
  pub leader-leads : (u : ℕ) → u < length p.labels → T (leads p (leader_of p u))
  unfolding is_leader
  leader-leads u h = true-T (eq-eqb (leader_of p (leader_of p u)) (leader_of p u) (sym (leader-same u (leader_of p u) (leader-member u h))))

  -- ---- sharing a class

  pub class-iff : (u v : ℕ) → u < length p.labels → v < length p.labels → (class_of p u ≡ class_of p v) ↔ Equivalent p u v
  unfolding class_of class_in
  class-iff u v h l = (
    λ e.
        let one : leader_of p u ≡ leader_of p v = rank-injective (leader_of p u) (leader_of p v) (leads p) (leader-leads u h) (leader-leads v l) e in
        equivalent-trans u (leader_of p v) v (subst (λ x. Equivalent p u x) one (leader-member u h))
        (equivalent-symm v (leader_of p v) (leader-member v l)),
    λ t. ap (λ x. count_below x (leads p)) (leader-same u v t),
  )

  -- "Two parts share a class exactly when each matches the other in the pattern's table on itself."
  pub shares-class : SharesClass (circuit_graph p) (SelfPairs p) (class_of p)
  unfolding circuit_graph graph_of
  shares-class =
      record {
        shares = λ u v h l. (
          λ e. (equivalent-iff u v).0 ((class-iff u v h l).0 e),
          λ m. (class-iff u v h l).1 ((equivalent-iff u v).1 m),
        );
      }

  -- ---- "Classes are numbered by their smallest part, rising."

  pub class-lt : (u : ℕ) → u < length p.labels → class_of p u < class_count p
  unfolding class_of class_in class_count
  class-lt u h = rank_lt (leader_of p u) (length p.labels) (leads p) (leader-lt u h) (leader-leads u h)

  -- a smaller number is that of the class with the smaller leader, and the other way round
  pub class-rises : (u v : ℕ) → u < length p.labels → (class_of p u < class_of p v) ↔ (leader_of p u < leader_of p v)
  unfolding class_of class_in
  class-rises u v h = (
    rank_rises (leader_of p u) (leader_of p v) (leads p),
    λ l. rank_lt (leader_of p u) (leader_of p v) (leads p) l (leader-leads u h),
  )

  -- the list of leaders has at each class its leader
  pub leaders-class : (u : ℕ) → u < length p.labels → get_or (leaders p) (class_of p u) 0 ≡ leader_of p u
  unfolding class_of class_in leaders
  leaders-class u h = collect-rank (length p.labels) (leads p) (λ u. u) (leader_of p u) 0 (leader-lt u h) (leader-leads u h)

  -- every number below their count is the class of a leader,
  pub class-onto : (a : ℕ) → a < class_count p → (u : ℕ) × (u < length p.labels) × T (leads p u) × (class_of p u ≡ a)
  unfolding class_of class_in class_count is_leader
  class-onto a h =
      let (u, l, t, e) = rank-onto (length p.labels) (leads p) a h in
      (u, l, t, ap (λ x. count_below x (leads p)) (eqb→eq (leader_of p u) u t) ∙ e)

  -- of the one that the list has there, and of no other
  pub leaders-at :
      (a : ℕ) → a < class_count p →
      (get_or (leaders p) a 0 < length p.labels) × T (leads p (get_or (leaders p) a 0)) × (class_of p (get_or (leaders p) a 0) ≡ a)
  unfolding is_leader
  leaders-at a h =
      let (u, l, t, e) = class-onto a h in
      let at : get_or (leaders p) a 0 ≡ u =
      ap (λ x. get_or (leaders p) x 0) (sym e) ∙ leaders-class u l ∙ eqb→eq (leader_of p u) u t in
      rw at (l, t, e)

  pub class_count-le : class_count p ≤ length p.labels
  unfolding class_count
  class_count-le = count_below-le (length p.labels) (leads p)

  pub class_count-pos : 0 < class_count p
  class_count-pos = lt_of_le_of_lt zero-le (class-lt 0 (some-parts c))
