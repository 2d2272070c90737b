-- The agreement of a part and a node: what its test means, and what it is good for. Nothing else looks into it. Assumes nothing.
use Rattle.std.specs.Prelude.{◌≡◌, ◌↔◌, ◌&&◌, ◌||◌, ◌<◌, ◌*◌, ◌/◌}
use Rattle.base_lists.specs.Kit.{◌∙◌, sym, ap, refl, subst, ap₂, ⊎_elim, inl, inr, true, List, ℕ, T, eqb, eqb→eq, length, get_or, arith, eq-eqb}
use Rattle.base_lists.specs.List.{Below}
use Rattle.base_lists.proofs.Tests.{true-T, T_true, both_true, both_left, both_right, same_test, either_left, either-right, either-cases}
use Rattle.base_bits.specs.Bits.{number_of}
use Rattle.graph.specs.Circuit.{Circuit}
use Rattle.table.specs.First.{start_node}
use Rattle.table.specs.Host.{KindMatches, KindsMatch}
use Rattle.file_format.specs.Label.{label, kind_in, package_in}
use Rattle.file_format.proofs.Labels.{label-kind, label-package, label-parts, plain-kind, plain-package, same-label}
use Rattle.graph.specs.Search.{inside}
use Rattle.table_row.specs.Row.{started_of, last_of, kept_of, struck_of, rounds_of}
use Rattle.table_row.specs.Reading.{Equivalent}
use Rattle.table_row.proofs.Wider.{last-same, started-same, kept_same, struck-same, rounds-same}
use Rattle.table.specs.Row.{kinds_agree, agrees, problem_by, problem_of, by_equal_kinds, by_kinds, last_table, started, kept, struck, rounds}

-- ---- the test

any-label : (node : ℕ) → label 0 (package_in node) ≡ node / 65536 * 65536
unfolding label package_in
any-label node = omega arith

agree-iff : (part node : ℕ) → T (kinds_agree part node) ↔ (KindMatches (kind_in part) (kind_in node) × (package_in part ≡ package_in node))
unfolding kinds_agree
agree-iff part node =
    let same = eqb (package_in part) (package_in node) in
    let any = eqb (kind_in part) 0 in
    let equal = eqb (kind_in part) (kind_in node) in (
      λ t. (
        ⊎_elim (λ a. inl (eqb→eq (kind_in part) 0 a)) (λ b. inr (eqb→eq (kind_in part) (kind_in node) b)) (either-cases any equal (both_right same (any || equal) t)),
        eqb→eq (package_in part) (package_in node) (both_left same (any || equal) t),
      ),
      λ (k, e).
          both_true same (any || equal) (true-T (eq-eqb (package_in part) (package_in node) e))
          (⊎_elim (λ z. either_left any equal (true-T (eq-eqb (kind_in part) 0 z))) (λ q. either-right any equal (true-T (eq-eqb (kind_in part) (kind_in node) q))) k),
    )

-- the one label besides its own that agrees with a node's: that of kind 0 and the node's package
pub agree-any : (part node : ℕ) → part ≡ node / 65536 * 65536 → kinds_agree part node ≡ true
unfolding kind_in package_in
agree-any part node e = T_true ((agree-iff part node).1 (inl (omega arith), omega arith))

pub agree-own : (part node : ℕ) → (part ≡ node / 65536 * 65536 → ⊥) → kinds_agree part node ≡ eqb part node
agree-own part node other = same_test there back
  where
    any : kind_in part ≡ 0 → package_in part ≡ package_in node → part ≡ node / 65536 * 65536
    any z p = sym (label-parts part) ∙ ap₂ label z p ∙ any-label node

    there : T (kinds_agree part node) → T (eqb part node)
    there t =
        let m = (agree-iff part node).0 t in
        ⊎_elim (λ z. absurd (other (any z m.1))) (λ e. true-T (eq-eqb part node (same-label part node e m.1))) m.0

    back : T (eqb part node) → T (kinds_agree part node)
    back t =
        let e = eqb→eq part node t in
        (agree-iff part node).1 (inr (ap kind_in e), ap package_in e)

-- what the agreement says of labels, it says of kinds and packages of 16 bits: "a kind-0 part of package 3 takes nodes of package 3 only"
pub agree-pairs :
    (kind package' kind' package'' : ℕ) → kind < 65536 → kind' < 65536 →
    T (kinds_agree (label kind package') (label kind' package'')) ↔ (KindMatches kind kind' × (package' ≡ package''))
agree-pairs k p k' p' h h' =
    let (f, g) = agree-iff (label k p) (label k' p') in
    let e = label-kind k p h in
    let e' = label-kind k' p' h' in
    let q = label-package k p h in
    let q' = label-package k' p' h' in (
      λ t. subst₂-match e e' q q' (f t),
      λ m. g (subst₂-match (sym e) (sym e') (sym q) (sym q') m),
    )
  where
    subst₂-match : {a b a' b' c d c' d' : ℕ} → a ≡ b → a' ≡ b' → c ≡ d → c' ≡ d' → KindMatches a a' × (c ≡ c') → KindMatches b b' × (d ≡ d')
    subst₂-match e e' q q' (inl z, m) = (inl (sym e ∙ z), sym q ∙ m ∙ q')
    subst₂-match e e' q q' (inr z, m) = (inr (sym e ∙ z ∙ e'), sym q ∙ m ∙ q')

-- labels without packages, as first-edition files have: the agreement is that of Ask 1 on the kinds
pub agree-plain : (part node : ℕ) → part < 65536 → node < 65536 → kinds_agree part node ≡ (eqb part 0 || eqb part node)
unfolding kinds_agree
agree-plain part node h h' =
    rw (plain-kind part h, plain-kind node h', plain-package part h, plain-package node h')

-- "Every sentence of document 01 on equal kinds reads so"
pub agrees-kinds : (pattern host : Circuit) (u v : ℕ) → T (agrees pattern host u v) ↔ KindsMatch pattern host u v
unfolding agrees KindsMatch
agrees-kinds pattern host u v = agree-iff (get_or pattern.labels u 0) (get_or host.labels v 0)

-- the set of the parts that agree with a node, as the code makes it from the kinds
pub start-agrees :
    (pattern host : Circuit) (v : ℕ) →
    start_node pattern.labels host.labels v ≡ number_of (length pattern.labels) (λ u. agrees pattern host u v)
unfolding start_node agrees
start-agrees pattern host v = refl

-- ---- what merging needs

-- a part agrees with itself
pub kinds-reflexive : (c : Circuit) (u : ℕ) → KindsMatch c c u u
unfolding KindsMatch
kinds-reflexive c u = (inr refl, refl)

-- what agrees with a part agrees with what that agrees with
pub kinds-compose : (a b c : Circuit) (u x v : ℕ) → KindsMatch a b u x → KindsMatch b c x v → KindsMatch a c u v
unfolding KindsMatch
kinds-compose a b c u x v (inl e, p) (d, q) = (inl e, p ∙ q)
kinds-compose a b c u x v (inr e, p) (inl d, q) = (inl (e ∙ d), p ∙ q)
kinds-compose a b c u x v (inr e, p) (inr d, q) = (inr (e ∙ d), p ∙ q)

-- parts that agree with each other have the same kind and the same package: a part of kind 0 agrees with one of kind 5, and not the other
-- way round
pub kinds-mutual : (c : Circuit) (u v : ℕ) → KindsMatch c c u v → KindsMatch c c v u → get_or c.labels u 0 ≡ get_or c.labels v 0
unfolding KindsMatch
kinds-mutual c u v (inr e, p) d = same-label _ _ e p
kinds-mutual c u v (inl e, p) (inl d, q) = same-label _ _ (e ∙ sym d) p
kinds-mutual c u v (inl e, p) (inr d, q) = same-label _ _ (sym d) p

-- parts of the same kind and package agree with the same nodes
pub kinds-part : (a b host : Circuit) (u x v : ℕ) → get_or a.labels u 0 ≡ get_or b.labels x 0 → KindsMatch a host u v → KindsMatch b host x v
unfolding KindsMatch
kinds-part a b host u x v e m =
    subst (λ (l : ℕ). KindMatches (kind_in l) (kind_in (get_or host.labels v 0)) × (package_in l ≡ package_in (get_or host.labels v 0))) e m

-- ---- patterns without kind 0

-- no part is of kind 0
abbrev pub Plain : Circuit → Type 0
Plain c = (u : ℕ) → u < length c.labels → kind_in (get_or c.labels u 0) ≡ 0 → ⊥

-- such a part agrees with its own label alone
labels-agree : (part node : ℕ) → (kind_in part ≡ 0 → ⊥) → kinds_agree part node ≡ eqb part node
unfolding kind_in
labels-agree part node f = agree-own part node (λ e. f (omega arith))

-- For such a pattern the problem is that of equal labels, whatever kinds and packages the board has: so its tables and counts, and all that is made from
-- them, are those of before.
module _ (pattern host : Circuit) (taken : List ℕ) (plain : Plain pattern) where
  plain-agree : (u v : ℕ) → u < length pattern.labels → agrees pattern host u v ≡ eqb (get_or pattern.labels u 0) (get_or host.labels v 0)
  unfolding agrees
  plain-agree u v h = labels-agree (get_or pattern.labels u 0) (get_or host.labels v 0) (plain u h)

  pub plain-same : Equivalent (problem_of pattern host taken) (by_equal_kinds pattern host taken)
  unfolding problem_by by_equal_kinds
  plain-same =
      record {
        nodes = refl;
        parts = refl;
        wider =
            record {
              agree = λ u v a. record { part = a.part; node = a.node; agree = subst (λ b. T (inside taken v && b)) (plain-agree u v a.part) a.agree };
              step = λ d u u' l. (d, record { way = l.way; step = l.step }, λ v v' a b m. record { move = m.move });
            };
        narrower =
            record {
              agree = λ u v a. record { part = a.part; node = a.node; agree = subst (λ b. T (inside taken v && b)) (sym (plain-agree u v a.part)) a.agree };
              step = λ d u u' l. (d, record { way = l.way; step = l.step }, λ v v' a b m. record { move = m.move });
            };
      }

  pub plain-last : last_table pattern host taken ≡ last_of (by_equal_kinds pattern host taken)
  plain-last = last-same plain-same

  pub plain-counts :
      (started pattern host taken ≡ started_of (by_equal_kinds pattern host taken))
      × (kept pattern host taken ≡ kept_of (by_equal_kinds pattern host taken))
      × (struck pattern host taken ≡ struck_of (by_equal_kinds pattern host taken))
      × (rounds pattern host taken ≡ rounds_of (by_equal_kinds pattern host taken))
  plain-counts = (started-same plain-same, kept_same plain-same, struck-same plain-same, rounds-same plain-same)

-- ---- circuits without packages

-- Labels of 16 bits, as circuits of first-edition files have: the problem is that of kinds, so its tables and counts, and all that is made from
-- them, are those of before there were packages.
module _ (pattern host : Circuit) (taken : List ℕ) (parts : Below 65536 pattern.labels) (nodes : Below 65536 host.labels) where
  unpacked-agree : (u v : ℕ) → u < length pattern.labels → v < length host.labels
      → agrees pattern host u v ≡ (eqb (get_or pattern.labels u 0) 0 || eqb (get_or pattern.labels u 0) (get_or host.labels v 0))
  unfolding agrees Below
  unpacked-agree u v h l = agree-plain (get_or pattern.labels u 0) (get_or host.labels v 0) (parts u h) (nodes v l)

  pub unpacked-same : Equivalent (problem_of pattern host taken) (by_kinds pattern host taken)
  unfolding problem_by by_kinds
  unpacked-same =
      record {
        nodes = refl;
        parts = refl;
        wider =
            record {
              agree = λ u v a. record { part = a.part; node = a.node; agree = subst (λ b. T (inside taken v && b)) (unpacked-agree u v a.part a.node) a.agree };
              step = λ d u u' l. (d, record { way = l.way; step = l.step }, λ v v' a b m. record { move = m.move });
            };
        narrower =
            record {
              agree = λ u v a. record { part = a.part; node = a.node; agree = subst (λ b. T (inside taken v && b)) (sym (unpacked-agree u v a.part a.node)) a.agree };
              step = λ d u u' l. (d, record { way = l.way; step = l.step }, λ v v' a b m. record { move = m.move });
            };
      }

  pub unpacked-last : last_table pattern host taken ≡ last_of (by_kinds pattern host taken)
  unpacked-last = last-same unpacked-same

  pub unpacked-counts :
      (started pattern host taken ≡ started_of (by_kinds pattern host taken))
      × (kept pattern host taken ≡ kept_of (by_kinds pattern host taken))
      × (struck pattern host taken ≡ struck_of (by_kinds pattern host taken))
      × (rounds pattern host taken ≡ rounds_of (by_kinds pattern host taken))
  unpacked-counts = (started-same unpacked-same, kept_same unpacked-same, struck-same unpacked-same, rounds-same unpacked-same)
