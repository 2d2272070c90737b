-- Nothing more could be joined: a grouping of a pattern's parts whose groups match what each of their members matches joins no parts but such
-- as match each other, and so has at least as many groups as there are classes of mutual matching. These classes are such a grouping. The
-- agreement need not be symmetric. Assumes nothing.
use Rattle.std.specs.Prelude.{◌≡◌, ◌≤◌, ◌<◌}
use Rattle.base_lists.specs.Kit.{◌∙◌, sym, refl, true, ℕ, zero, arith}
use native.Mathlib.Decide.{dec_lt}
use Rattle.base_lists.proofs.Ranks.{count-images}
use Rattle.base_lists.proofs.Below.{count_below-all}
use Rattle.graph.specs.Graph.{Graph}
use Rattle.simulation.specs.Closed.{Relation}
use Rattle.simulation.specs.Simulation.{Largest}
use Rattle.simulation.specs.Quotient.{Mutual, SharesClass, QuotientGraph, QuotientAgree, AgreeLaws, LinksJoin, Image, Merging}
use Rattle.simulation.specs.Grouping.{Grouping, AsEachMember, AlikeLaws}
use Rattle.simulation.proofs.Quotient.{self-refl, same-pairs}

-- ── A grouping makes a pattern ──

-- Members of a group agree with the same nodes, so that there is an agreement of the groups.
pub grouping-agree :
    {P : Graph} {Alike AgreeSelf Agree : Relation} {group : ℕ → ℕ} {k : ℕ} → Grouping P Alike group k → AlikeLaws Alike AgreeSelf Agree →
    QuotientAgree P group Agree (Image group (λ u v. P.Node u × Agree u v))
unfolding Image
grouping-agree g likes =
    record { agree = λ u v n. (λ a. (u, refl, (n, a)), λ (x, e, (m, a)). likes.same x u v (g.alike x u m n e) a) }

-- ── Numbers of groups ──

-- Of two groupings the finer one has at least as many groups.
pub finer-more :
    {P : Graph} {Alike Alike' : Relation} {fine coarse : ℕ → ℕ} {k c : ℕ} → Grouping P Alike fine k → Grouping P Alike' coarse c →
    ((u v : ℕ) → P.Node u → P.Node v → fine u ≡ fine v → coarse u ≡ coarse v) → c ≤ k
finer-more {P = P} {fine = fine} {coarse = coarse} {k = k} {c = c} f g finer =
    omega (
      arith,
      count_below-all c,
      count-images c k (λ i. true) (λ j. around j (dec_lt j k))
          (λ a h _. let (u, n, e) = g.onto a h in (fine u, f.below u n, around-is u n (dec_lt (fine u) k) ∙ e)),
    )
  where
    -- the coarse group around a fine one
    around : (j : ℕ) → Dec (j < k) → ℕ
    around j (yes l) = coarse (f.onto j l).0
    around j (no d) = zero

    around-is : (u : ℕ) → P.Node u → (d : Dec (fine u < k)) → around (fine u) d ≡ coarse u
    around-is u n (yes l) = let (x, m, e) = f.onto (fine u) l in finer x u m n e
    around-is u n (no d) = absurd (d (f.below u n))

-- The same grouping, said in another way.
pub grouping-same :
    {P : Graph} {Alike : Relation} {f g : ℕ → ℕ} {k : ℕ} → ((u : ℕ) → P.Node u → g u ≡ f u) → Grouping P Alike f k → Grouping P Alike g k
grouping-same e f =
    record {
      below = λ u n. rw (e u n) (f.below u n);
      onto = λ a h. let (u, n, d) = f.onto a h in (u, n, e u n ∙ d);
      alike = λ u v n m d. f.alike u v n m (sym (e u n) ∙ d ∙ e v m);
    }

-- ── Nothing more could be joined ──

module _
    {P : Graph} {AgreeSelf Agree Self : Relation} (joins : LinksJoin P) (laws : AgreeLaws P AgreeSelf Agree)
    (self : Largest P AgreeSelf P Self) where
  module _ {group : ℕ → ℕ} {R : Relation} (each : AsEachMember P group P Self R) where
    -- The pattern itself is the board. Its part u matches itself, hence the group, hence each other member of it.
    member-matches : (u x : ℕ) → P.Node u → P.Node x → group u ≡ group x → Self x u
    member-matches u x n m e =
        let whole : R (group u) u = (each.exactly (group u) u u n refl n).1 (self-refl joins laws self u n) in
        (each.exactly (group u) x u m (sym e) n).0 whole

    -- So parts of one group match each other.
    pub members-mutual : (u x : ℕ) → P.Node u → P.Node x → group u ≡ group x → Mutual Self u x
    members-mutual u x n m e = (member-matches x u m n (sym e), member-matches u x n m e)

    -- Then the grouping has at least as many groups as there are classes.
    pub nothing-more :
        {Alike Alike' : Relation} {class : ℕ → ℕ} {k c : ℕ} → SharesClass P Self class → Grouping P Alike group k → Grouping P Alike' class c →
        c ≤ k
    nothing-more shared g classes =
        finer-more g classes (λ u x n m e. (shared.shares u x n m).1 (members-mutual u x n m e))

  -- ── The classes are such a grouping ──

  -- members of a class are alike,
  pub class-alike :
      {Alike : Relation} {class : ℕ → ℕ} → SharesClass P Self class → AlikeLaws Alike AgreeSelf Agree →
      (u v : ℕ) → P.Node u → P.Node v → class u ≡ class v → Alike u v
  class-alike shared likes u v n m e =
      let (there, back) = (shared.shares u v n m).0 e in
      likes.each u v (self.holds.kinds u v there) (self.holds.kinds v u back)

-- and on every board a class matches what each of its members matches.
pub classes-such :
    {P : Graph} {AgreeSelf Agree Self : Relation} {class : ℕ → ℕ} {AgreeQ : Relation} → Merging P AgreeSelf Agree Self class AgreeQ →
    {H : Graph} {S R : Relation} → Largest P Agree H S → Largest (QuotientGraph P class) AgreeQ H R → AsEachMember P class H S R
classes-such merging s r =
    record {
      exactly = λ a u v n e _. let pairs = same-pairs merging s r u v n in rw (← e) (pairs.1, pairs.0);
    }
