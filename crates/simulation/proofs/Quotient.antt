-- Merging keeps what is found: the pattern and its quotient by mutual matching have the same match graphs, perfect subgraphs and places,
-- and no distance of the quotient is larger. Assumes nothing.
use Rattle.std.specs.Prelude.{◌≡◌, ◌↔◌, ◌≤◌}
use Rattle.base_lists.specs.Kit.{◌∙◌, sym, refl, subst, subst₂, ℕ, le_trans}
use Rattle.graph.specs.Graph.{Graph, Connected, Walk, Radius}
use Rattle.simulation.specs.Closed.{Relation, Compose}
use Rattle.simulation.specs.Simulation.{DualSimulation, Largest, Direction, forwards, backwards, Along}
use Rattle.simulation.specs.Quotient.{QuotientGraph, AgreeLaws, LinksJoin, Mutual, Merging, Image, Preimage}
use Rattle.simulation.proofs.Simulation.{dual-closed, closed-dual, dual-compose}
use Rattle.simulation.proofs.Walks.{map-walk}

-- ── A pattern's table on itself ──

-- each part with itself
Identity : Graph → Relation
Identity P u v = P.Node u × (u ≡ v)

module _
    {P : Graph} {AgreeSelf Agree Self : Relation} (joins : LinksJoin P) (laws : AgreeLaws P AgreeSelf Agree)
    (self : Largest P AgreeSelf P Self) where
  identity-dual : DualSimulation P AgreeSelf P (Identity P)
  unfolding Identity
  identity-dual =
      record {
        part = λ u v (n, e). n;
        node = λ u v (n, e). subst P.Node e n;
        kinds = λ u v (n, e). subst (AgreeSelf u) e (laws.reflexive u n);
        forward = λ u v u' (n, e) l. (u', subst (λ x. P.Link x u') e l, (joins.ends u u' l, refl));
        backward = λ u v u' (n, e) l. (u', subst (P.Link u') e l, (joins.starts u' u l, refl));
        occurs = λ u v m x n. (x, (n, refl));
      }

  -- The table of a pattern on itself is reflexive on the parts, and transitive.
  pub self-refl : (u : ℕ) → P.Node u → Self u u
  unfolding Identity
  self-refl u n = self.contains (Identity P) identity-dual u u (n, refl)

  pub self-trans : (u x v : ℕ) → Self u x → Self x v → Self u v
  unfolding Compose
  self-trans u x v s t =
      self.contains (Compose Self Self) (dual-compose laws.transitive self.holds self.holds) u v (x, s, t)

  -- So mutual matching is an equivalence of the parts.
  pub mutual-equivalence :
      ((u : ℕ) → P.Node u → Mutual Self u u) ×
      ((u v : ℕ) → Mutual Self u v → Mutual Self v u) ×
      ((u x v : ℕ) → Mutual Self u x → Mutual Self x v → Mutual Self u v)
  mutual-equivalence = (
    λ u n. (self-refl u n, self-refl u n),
    λ u v (s, t). (t, s),
    λ u x v (s, t) (s', t'). (self-trans u x v s s', self-trans v x u t' t),
  )

  -- If u is matched by x in the pattern, then u is matched by all that x is matched by.
  pub self-absorbs : {H : Graph} {S : Relation} → Largest P Agree H S → (u x v : ℕ) → Self u x → S x v → S u v
  unfolding Compose
  self-absorbs {S} largest u x v s t =
      largest.contains (Compose Self S) (dual-compose laws.compose self.holds largest.holds) u v (x, s, t)

-- ── Links and walks of the quotient ──

module _ (P : Graph) (class : ℕ → ℕ) where
  class-link : (u u' : ℕ) → P.Link u u' → (QuotientGraph P class).Link (class u) (class u')
  unfolding QuotientGraph
  class-link u u' l = (u, u', l, refl, refl)

  class-along : (d : Direction) (u u' : ℕ) → Along P.Link d u u' → Along (QuotientGraph P class).Link d (class u) (class u')
  unfolding Along
  class-along forwards u u' l = class-link u u' l
  class-along backwards u u' l = class-link u' u l

  -- a link between classes is one between members
  members-along :
      (d : Direction) (a b : ℕ) → Along (QuotientGraph P class).Link d a b →
      (u : ℕ) × (u' : ℕ) × Along P.Link d u u' × (class u ≡ a) × (class u' ≡ b)
  unfolding Along QuotientGraph
  members-along forwards a b l = l
  members-along backwards a b (u, u', l, e, e') = (u', u, l, e', e)

  -- a walk between members is one between their classes, of the same length
  pub class-walk :
      {u v a b n : ℕ} → class u ≡ a → class v ≡ b → Walk P.Link u v n → Walk (QuotientGraph P class).Link a b n
  class-walk {n} e e' walk = subst₂ (λ x y. Walk (QuotientGraph P class).Link x y n) e e' (map-walk class class-link walk)

  -- The quotient of a connected pattern is connected.
  pub quotient-connected : Connected P → Connected (QuotientGraph P class)
  unfolding Connected QuotientGraph
  quotient-connected connected a b (u, n, e) (v, m, e') =
      let (k, walk) = connected u v n m in
      (k, class-walk e e' walk)

  -- So the quotient's radius is never the larger one.
  pub quotient-radius : (r s : ℕ) → Radius P r → Radius (QuotientGraph P class) s → s ≤ r
  unfolding QuotientGraph
  quotient-radius r s p q =
      let (a, b, (u, n, e), (v, m, e'), distance) = q.attained in
      let (d, shortest, below) = p.reached u v n m in
      le_trans (distance.shortest d (class-walk e e' shortest.walk)) below

-- ── Sets of pairs with parts and with classes ──

module _
    {P : Graph} {AgreeSelf Agree Self : Relation} {class : ℕ → ℕ} {AgreeQ : Relation}
    (merging : Merging P AgreeSelf Agree Self class AgreeQ) where
  starts-along : (d : Direction) (u u' : ℕ) → Along P.Link d u u' → P.Node u
  unfolding Along
  starts-along forwards u u' l = merging.joins.starts u u' l
  starts-along backwards u u' l = merging.joins.ends u' u l

  ends-along : (d : Direction) (u u' : ℕ) → Along P.Link d u u' → P.Node u'
  unfolding Along
  ends-along forwards u u' l = merging.joins.ends u u' l
  ends-along backwards u u' l = merging.joins.starts u' u l

  preimage-dual :
      {H : Graph} {R : Relation} → DualSimulation (QuotientGraph P class) AgreeQ H R →
      DualSimulation P Agree H (Preimage P class R)
  unfolding Preimage QuotientGraph
  preimage-dual r =
      closed-dual
      (record {
        agree = λ u v (n, m).
            record {
              part = n;
              node = r.node (class u) v m;
              kinds = (merging.kinds.agree u v n).1 (r.kinds (class u) v m);
            };
        partner = λ d u v u' (n, m) l.
            let (v', k, m') = (dual-closed r).partner d (class u) v (class u') m (class-along P class d u u' l) in
            (v', k, (ends-along d u u' l, m'));
      })
      (record {
        occurs = λ u v (n, m) x p.
            let (y, m') = r.occurs (class u) v m (class x) (x, p, refl) in
            (y, (p, m'));
      })

  -- here the set must hold for every member what it holds for one
  image-dual :
      {H : Graph} {S : Relation} → ((u x v : ℕ) → Self u x → S x v → S u v) → DualSimulation P Agree H S →
      DualSimulation (QuotientGraph P class) AgreeQ H (Image class S)
  unfolding Image QuotientGraph
  image-dual absorbs s =
      closed-dual
      (record {
        agree = λ a v (u, e, m).
            record {
              part = (u, s.part u v m, e);
              node = s.node u v m;
              kinds = subst (λ x. AgreeQ x v) e ((merging.kinds.agree u v (s.part u v m)).0 (s.kinds u v m));
            };
        partner = λ d a v b (u, e, m) l.
            let (x, x', p, f, f') = members-along P class d a b l in
            let same = (merging.classes.shares x u (starts-along d x x' p) (s.part u v m)).0 (f ∙ sym e) in
            let (v', k, m') = (dual-closed s).partner d x v x' (absorbs x u v same.0 m) p in
            (v', k, (x', f', m'));
      })
      (record {
        occurs = λ a v (u, e, m) b (x, p, f).
            let (y, m') = s.occurs u v m x p in
            (y, (x, f, m'));
      })

  -- ── The quotient's largest dual simulations ──

  pub quotient-largest :
      {H : Graph} {S : Relation} → Largest P Agree H S → Largest (QuotientGraph P class) AgreeQ H (Image class S)
  unfolding Image Preimage QuotientGraph
  quotient-largest largest =
      record {
        holds = image-dual (self-absorbs merging.joins merging.laws merging.self largest) largest.holds;
        contains = λ R r a v m.
            let (u, n, e) = r.part a v m in
            (u, e, largest.contains (Preimage P class R) (preimage-dual r) u v (n, subst (λ x. R x v) (sym e) m));
      }

  -- A part matches a node exactly when its class does.
  pub same-pairs :
      {H : Graph} {S R : Relation} → Largest P Agree H S → Largest (QuotientGraph P class) AgreeQ H R →
      (u v : ℕ) → P.Node u → S u v ↔ R (class u) v
  unfolding Image Preimage
  same-pairs {S} {R} p q u v n = (
    λ s. q.contains (Image class S) (quotient-largest p).holds (class u) v (u, refl, s),
    λ m. p.contains (Preimage P class R) (preimage-dual q.holds) u v (n, m),
  )
