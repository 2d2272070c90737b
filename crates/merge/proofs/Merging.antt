-- The classes are a grouping of the parts, and the merged pattern, which that grouping makes, is the quotient of the pattern by its classes.
-- Assumes nothing.
use Rattle.std.specs.Prelude.{◌≡◌, ◌<◌}
use Rattle.base_lists.specs.Kit.{◌∙◌, sym, ap, List, ℕ, T, eqb→eq, length, get_or, ext_get_or}
use Rattle.base_lists.specs.Below.{collect}
use Rattle.base_lists.proofs.Below.{length-collect}
use Rattle.base_lists.proofs.Ranks.{collect-rank}
use Rattle.graph.specs.Circuit.{Circuit, graph_of, circuit_graph}
use Rattle.simulation.specs.Grouping.{Grouping, AlikeLaws}
use Rattle.simulation.specs.Perfect.{SameGraph}
use Rattle.simulation.specs.Quotient.{QuotientGraph, QuotientAgree, Merging}
use Rattle.simulation.proofs.Grouping.{class-alike}
use Rattle.table.specs.Host.{KindsMatch}
use Rattle.table.proofs.Agreement.{kinds-mutual, kinds-part}
use Rattle.merge.specs.Merged.{SameKind, is_leader, class_in, class_of, class_count, merged}
use Rattle.merge.proofs.Content.{PatternContent}
use Rattle.merge.proofs.Classes.{SelfPairs, leader_of, leads, kinds-laws, content-joins, self-largest, leader-lt, leader-leads, shares-class, class-lt, class-onto, leaders-at}
use Rattle.merge.proofs.Grouped.{length-grouped-kinds, grouped-graph, grouped-kind, grouped-agree}

-- parts of the same kind agree with the same nodes, and parts that agree each with the other have the same kind
pub kinds-alike : (p board : Circuit) → AlikeLaws (SameKind p) (KindsMatch p p) (KindsMatch p board)
unfolding SameKind
kinds-alike p board = record { same = kinds-part p p board; each = kinds-mutual p }

pub length-merged-kinds : (p : Circuit) → length (merged p).labels ≡ class_count p
unfolding merged
length-merged-kinds p = length-grouped-kinds p (class_of p) (class_count p)

module _ {p : Circuit} (c : PatternContent p) where
  -- The classes are a grouping.
  pub classes-grouping : Grouping (circuit_graph p) (SameKind p) (class_of p) (class_count p)
  unfolding circuit_graph graph_of
  classes-grouping =
      record {
        below = class-lt c;
        onto = λ a h. let (l, t, e) = leaders-at c a h in (_, l, e);
        alike = class-alike (content-joins c) (kinds-laws p p) (self-largest c) (shares-class c) (kinds-alike p p);
      }

  -- "The merged pattern has a part per class .. and a link from class a to class b, b equal to a included, where some member of a has a
  -- link to some member of b."
  pub merged-graph : SameGraph (circuit_graph (merged p)) (QuotientGraph (circuit_graph p) (class_of p))
  unfolding merged
  merged-graph = grouped-graph c classes-grouping

  -- ".. of the same kind": the kind of a class is that of each of its members
  pub merged-kind : (u : ℕ) → u < length p.labels → get_or (merged p).labels (class_of p u) 0 ≡ get_or p.labels u 0
  unfolding merged
  merged-kind = grouped-kind c classes-grouping

  pub merged-agree : (board : Circuit) → QuotientAgree (circuit_graph p) (class_of p) (KindsMatch p board) (KindsMatch (merged p) board)
  unfolding merged
  merged-agree = grouped-agree c classes-grouping

  -- the kinds of the smallest parts of the classes, which rise with the classes
  abbrev leader_kinds : List ℕ
  leader_kinds = collect (length p.labels) (leads p) (λ u. get_or p.labels u 0)

  leader-kind : (u : ℕ) → u < length p.labels → T (leads p u) → get_or leader_kinds (class_of p u) 0 ≡ get_or p.labels u 0
  unfolding class_of class_in is_leader
  leader-kind u h t =
      collect-rank _ (leads p) (λ u. get_or p.labels u 0) (leader_of p u) 0 (leader-lt c u h) (leader-leads c u h)
      ∙ ap (λ (x : ℕ). get_or p.labels x 0) (eqb→eq (leader_of p u) u t)

  -- are the merged pattern's
  pub merged-kinds : (merged p).labels ≡ leader_kinds
  unfolding class_count
  merged-kinds =
      ext_get_or 0 (merged p).labels leader_kinds (length-merged-kinds p ∙ sym (length-collect (length p.labels) (leads p) _))
      (λ a h.
      let (u, l, t, e) = class-onto c a (rw length-merged-kinds at h) in
      ap (λ (x : ℕ). get_or (merged p).labels x 0) (sym e) ∙ merged-kind u l ∙ sym (leader-kind u l t) ∙ ap (λ (x : ℕ). get_or leader_kinds x 0) e)

  -- all that merging rests on, for equal kinds
  pub merging : (board : Circuit) → Merging (circuit_graph p) (KindsMatch p p) (KindsMatch p board) (SelfPairs p) (class_of p) (KindsMatch (merged p) board)
  merging board =
      record {
        joins = content-joins c;
        laws = kinds-laws p board;
        self = self-largest c;
        classes = shares-class c;
        kinds = merged-agree board;
      }
