-- The two groupings of specs/Groupings: one that meets the supposition, and one that does not. Assumes nothing.
use Rattle.std.specs.Prelude.{◌≡◌, ◌∷◌, ◌<◌}
use Rattle.base_lists.specs.Kit.{◌∙◌, sym, ap, refl, subst, iff_rfl, [], ℕ, eqb, ltb, eqb→eq, ltb→lt, lit≤, length, get_or}
use Rattle.base_lists.specs.Below.{collect, least_below}
use Rattle.base_lists.specs.List.{all_below, any_below, tabulate}
use Rattle.base_lists.proofs.Tests.{all_below-at}
use Rattle.graph.specs.Circuit.{Circuit, graph_of, circuit_graph}
use Rattle.graph.specs.Pairs.{pair_test, pair_starts, pair_ends}
use Rattle.file_format.specs.declared.Edition.TheVariants.{First}
use Rattle.file_format.specs.declared.Role.TheVariants.{Pattern}
use Rattle.file_format.specs.Circuit.{circuit_of}
use Rattle.file_format.specs.Examples.{file_t}
use Rattle.file_format.specs.Label.{label, labels, packages_in}
use Rattle.file_format.specs.Layout.{first_edition, field, fields, nodes_of, links_of, kinds_of, packages_of, starts_of, ends_of, labels_of}
use Rattle.file_format.specs.Refusals.{Accepted}
use Rattle.file_format.proofs.Fields.{length-labels}
use Rattle.file_write.specs.Bytes.{bytes_of, stretch_bytes, kinds_for, circuit_bytes}
use Rattle.table.specs.Examples.{circuit_t}
use Rattle.place.specs.Examples.{circuit_y, circuit_one_link}
use Rattle.merge.specs.Examples.{circuit_e8}
use Rattle.merge.specs.Merged.{SameKind, first_member, joins, linked, grouped, self_table, class_count}
use Rattle.merge.proofs.Examples.{content-Y, E6-merged, content-E8, E8-member, E8-none}
use Rattle.merge.proofs.Grouped.{finest}
use Rattle.merge.proofs.Merging.{length-merged-kinds}
use Rattle.call_merge.proofs.Promise.{content-accepted, pattern-board}
use Rattle.demands.specs.Demands.{graph}
use Rattle.demands.specs.Groupings.{Groups, grouped_file, Matches, Supposed, file_y, FinestY, file_e8, joined, JoinedE8}
use Rattle.demands.proofs.Groupings.{matches-last, grouped-made, replied-is}

-- all that is opened where the file of a grouping is computed
opened : Unit {0}
unfolding labels_of labels label kinds_of packages_of starts_of ends_of nodes_of links_of fields field stretch_bytes circuit_bytes kinds_for packages_in bytes_of tabulate collect least_below any_below first_member joins linked pair_test pair_starts pair_ends grouped grouped_file
opened = tt

-- ---- the finest grouping of Y

read-Y : circuit_of file_y ≡ circuit_y
unfolding opened file_y circuit_y
read-Y = refl

accepted-Y : Accepted Pattern file_y
unfolding opened file_y circuit_y
accepted-Y = content-accepted First content-Y

-- it makes Y again
finest-Y : grouped_file file_y (λ u. u) 3 ≡ file_y
unfolding opened file_y
finest-Y = refl

groups-Y : Groups file_y (λ u. u) 3
unfolding opened file_y SameKind
groups-Y =
    let each = finest (circuit_of file_y) in
    record { below = each.below; onto = each.onto; alike = λ u v _ _ e. ap (λ (x : ℕ). get_or (circuit_of file_y).labels x 0) e }

supposed-Y : Supposed file_y (λ u. u) 3
supposed-Y = record { on = λ board b. rw finest-Y (record { exactly = λ a u v n e h. rw e iff_rfl }) }

classes-Y : class_count circuit_y ≡ 2
unfolding circuit_one_link
classes-Y = sym (length-merged-kinds circuit_y) ∙ ap (λ (q : Circuit). length q.labels) E6-merged

pub finest-Y-holds : FinestY
finest-Y-holds =
    record {
      accepted = accepted-Y;
      groups = groups-Y;
      supposed = supposed-Y;
      ours = λ classes out room. replied-is accepted-Y room ∙ ap class_count read-Y ∙ classes-Y;
    }

-- ---- two parts of E8 joined that do not match each other

read-E8 : circuit_of file_e8 ≡ circuit_e8
unfolding opened file_e8 circuit_e8
read-E8 = refl

read-T : circuit_of (first_edition file_t) ≡ circuit_t
unfolding opened file_t circuit_t
read-T = refl

accepted-E8 : Accepted Pattern file_e8
unfolding opened file_e8 circuit_e8
accepted-E8 = content-accepted First content-E8

-- the kind of each part is that of its group
kind : ℕ → ℕ
kind a = get_or (10 ∷ 20 ∷ 30 ∷ []) a 0

-- a member of each group
member : ℕ → ℕ
member a = get_or (0 ∷ 1 ∷ 3 ∷ []) a 0

kinds-E8 : (u : ℕ) → u < 4 → get_or (circuit_of file_e8).labels u 0 ≡ kind (joined u)
unfolding opened file_e8 joined kind all_below
kinds-E8 u h = eqb→eq _ _ (all_below-at 4 (λ u. eqb (get_or (circuit_of file_e8).labels u 0) (kind (joined u))) tt u h)

groups-E8 : Groups file_e8 joined 3
unfolding opened file_e8 joined member all_below circuit_graph graph_of SameKind
groups-E8 =
    record {
      below = λ u h. ltb→lt _ _ (all_below-at 4 (λ u. ltb (joined u) 3) tt u h);
      onto = λ a h. (
        member a,
        ltb→lt _ _ (all_below-at 3 (λ a. ltb (member a) 4) tt a h),
        eqb→eq _ _ (all_below-at 3 (λ a. eqb (joined (member a)) a) tt a h),
      );
      alike = λ u v h l e. kinds-E8 u h ∙ ap kind e ∙ sym (kinds-E8 v l);
    }

-- it makes T
makes-T : grouped_file file_e8 joined 3 ≡ first_edition file_t
unfolding opened file_e8 joined file_t
makes-T = refl

below-1 : 1 < nodes_of file_e8
unfolding nodes_of field file_e8
below-1 = lit≤ tt

node-1 : (graph file_e8).Node 1
unfolding circuit_graph graph_of
node-1 = rw (length-labels file_e8) below-1

member-E8 : Matches file_e8 file_e8 1 1
unfolding self_table
member-E8 = (matches-last accepted-E8 (pattern-board accepted-E8) 1 1 below-1).1 (rw read-E8 E8-member)

accepted-T : Accepted Pattern (first_edition file_t)
accepted-T = subst (Accepted Pattern) makes-T (grouped-made accepted-E8 groups-E8).accepted

group-E8 : Matches (grouped_file file_e8 joined 3) file_e8 1 1 → ⊥
group-E8 m =
    let t : Matches (first_edition file_t) file_e8 1 1 = rw makes-T at m in
    E8-none (rw (read-T, read-E8) at ((matches-last accepted-T (pattern-board accepted-E8) 1 1 below-1).0 t))

one : joined 1 ≡ 1
unfolding joined
one = refl

pub joined-E8-holds : JoinedE8
joined-E8-holds =
    record {
      accepted = accepted-E8;
      groups = groups-E8;
      makes = makes-T;
      board = pattern-board accepted-E8;
      member = member-E8;
      group = group-E8;
      fails = λ supposed. group-E8 (((supposed.on file_e8 (pattern-board accepted-E8)).exactly 1 1 1 node-1 one node-1).1 member-E8);
    }
