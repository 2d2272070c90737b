-- What first tables come to: the table of all pairs of equal kinds, and a larger graph's last table, cut to the nodes of a list. Assumes
-- nothing.
use Rattle.std.specs.Prelude.{◌≡◌, ◌&&◌, ◌≤◌, ◌<◌}
use Rattle.base_lists.specs.Kit.{◌∙◌, sym, ap, refl, subst, ap₂, Bool, false, true, cond, List, ℕ, T, eqb, length, get_or}
use Rattle.base_lists.proofs.Tables.{get_d_tabulate, tabulate-same}
use Rattle.base_lists.proofs.Tests.{T_true, false-T, cond-test}
use Rattle.base_bits.specs.Bits.{bit, number_of}
use Rattle.base_bits.proofs.Digits.{bit-of-zero}
use Rattle.base_bits.proofs.Numbers.{number-if}
use Rattle.graph.specs.Circuit.{Circuit}
use Rattle.graph.specs.Search.{inside}
use Rattle.table_row.specs.Problem.{Problem}
use Rattle.table_row.specs.Row.{table_of, start_of, started_of, struck_of}
use Rattle.table_row.proofs.Counting.{kept-started}
use Rattle.table_row.specs.Reading.{InTable}
use Rattle.table_row.proofs.Sets.{in-node, fits-node}
use Rattle.table_row.proofs.Begin.{start-begins}
use Rattle.table.specs.declared.Rest.{Rest}
use Rattle.table.specs.Fill.{listed, marks_of, table_at}
use Rattle.table.specs.First.{BeginsBy, Begins, start_node, Written}
use Rattle.table.specs.Host.{Taken, host_graph}
use Rattle.table.specs.Row.{in_table, agrees, pairs, problem_by, last_table}
use Rattle.simulation.specs.Simulation.{Direction}
use Rattle.table.specs.Refine.{RestedBy, counts_by, counts_from, RefinedBy}
use Rattle.table.proofs.Agreement.{start-agrees}
use Rattle.table.proofs.Meaning.{last_fits, last-candidate}
use Rattle.table.proofs.Narrow.{last_wider}
use Rattle.table.proofs.Row.{start-in}
use Rattle.table.proofs.Fill.{length-table, get_or-table}

pub inside-marks : (n : ℕ) (nodes : List ℕ) (v : ℕ) → v < n → inside (marks_of n nodes) v ≡ listed nodes v
unfolding inside marks_of
inside-marks n nodes v h = ap (λ (x : ℕ). eqb x 1) (get_d_tabulate n (λ v. cond (listed nodes v) 1 0) v 0 h) ∙ cond-test (listed nodes v)

pub start-row : (ways : List Direction) (pattern host : Circuit) (nodes : List ℕ)
    → table_at (length host.labels) (start_node pattern.labels host.labels) nodes ≡ start_of (problem_by ways pattern host (marks_of (length host.labels) nodes))
unfolding table_at start_of table_of problem_by
start-row ways pattern host nodes =
    tabulate-same (length host.labels) (λ v. cond (listed nodes v) (start_node pattern.labels host.labels v) 0)
    (λ v. number_of (length pattern.labels) (λ u. inside (marks_of (length host.labels) nodes) v && agrees pattern host u v))
    (λ v h.
    ap₂ (λ (b : Bool) (x : ℕ). cond b x 0) (sym (inside-marks (length host.labels) nodes v h)) (start-agrees pattern host v)
    ∙ number-if (inside (marks_of (length host.labels) nodes) v) (length pattern.labels) (λ u. agrees pattern host u v))

module _ (ways : List Direction) (pattern host : Circuit) (nodes : List ℕ) {n : ℕ} (long : n ≡ length host.labels) where
  abbrev problem : Problem Direction
  problem = problem_by ways pattern host (marks_of (length host.labels) nodes)

  -- ---- each node's parts of the same kind

  module _ {first : List ℕ} {count : ℕ} (w : Written n (start_node pattern.labels host.labels) nodes first count) where
    -- they are the first table of the row,
    pub started-table : first ≡ start_of problem
    started-table = w.made ∙ ap (λ (m : ℕ). table_at m (start_node pattern.labels host.labels) nodes) long ∙ start-row ways pattern host nodes

    pub started-begins : BeginsBy ways pattern host (marks_of (length host.labels) nodes) first
    started-begins = rw started-table (start-begins problem)

    -- and its pairs are those at first
    pub started-count : count ≡ started_of problem
    unfolding started_of
    started-count = w.size ∙ ap pairs started-table

    -- With what the rounds come to this gives the four counts.
    module _ (most : length pattern.labels ≤ 32) {last : List ℕ} {rest : Rest} (r : RestedBy ways pattern host (marks_of (length host.labels) nodes) first last rest) where
      pub kept-first : rest.kept ≤ count
      unfolding problem_by
      kept-first = rw (r.kept, started-count) (kept-started problem most)

      pub refined : RefinedBy ways pattern host (marks_of (length host.labels) nodes) last (counts_from count rest)
      unfolding counts_by struck_of
      refined = record { counted = rw (r.kept, r.rounds started-table, started-count); last = r.last }

module _ (pattern host : Circuit) (nodes : List ℕ) {n : ℕ} (long : n ≡ length host.labels) where
  abbrev marks : List ℕ
  marks = marks_of (length host.labels) nodes

  -- ---- a larger graph's last table, at the nodes of the list

  module _ (most : length pattern.labels ≤ 32) (wide : List ℕ) (more : (v : ℕ) → v < length host.labels → T (listed nodes v) → Taken host wide v)
      {from first : List ℕ} {count : ℕ} (e : from ≡ last_table pattern host wide) (w : Written n (λ v. get_or from v 0) nodes first count) where
    abbrev rule : ℕ → ℕ
    rule v = get_or from v 0

    made : first ≡ table_at (length host.labels) rule nodes
    made = w.made ∙ ap (λ (m : ℕ). table_at m rule nodes) long

    -- a pair of the table is one of the larger graph's at a listed node
    copied-in : (u v : ℕ) → InTable first u v → InTable from u v × T (listed nodes v)
    unfolding in_table
    copied-in u v m =
        let m' : InTable (table_at (length host.labels) rule nodes) u v = rw made at m in
        let l : v < length host.labels = rw length-table at (in-node (table_at (length host.labels) rule nodes) u v m') in
        go (listed nodes v) refl (subst (λ (x : ℕ). T (bit x u)) (get_or-table (length host.labels) rule nodes v l) m')
      where
        go : (b : Bool) → listed nodes v ≡ b → T (bit (cond b (rule v) 0) u) → T (bit (rule v) u) × T (listed nodes v)
        go true d s = (s, rw d tt)
        go false d s = absurd (false-T (bit-of-zero u) s)

    copied-from : (u v : ℕ) → InTable from u v → T (listed nodes v) → InTable first u v
    unfolding in_table
    copied-from u v m l =
        rw (made, get_or-table (length host.labels) rule nodes v (fits-node (last_fits pattern host wide) u v (rw e at m)), T_true {b = listed nodes v} l) m

    -- so it is one to begin with
    pub copied-begins : Begins pattern host marks first
    unfolding host_graph problem_by
    copied-begins =
        record {
          long = ap length made ∙ length-table (length host.labels) rule nodes;
          within =
              λ u v m.
              let (s, l) = copied-in u v m in
              let c = last-candidate pattern host wide u v (rw e at s) in
              (start-in pattern host marks u v).1
              (record {
                part = c.part;
                node = record { below = c.node.below; marked = rw (inside-marks (length host.labels) nodes v c.node.below) l };
                kinds = c.kinds;
              });
          contains =
              λ u v s.
              let c = last-candidate pattern host marks u v s in
              let here : (x : ℕ) → Taken host marks x → T (listed nodes x) = λ x h. rw (inside-marks (length host.labels) nodes x h.below) at h.marked in
              let wider = last_wider pattern host marks wide most (λ x h. more x h.below (here x h)) u v s in
              copied-from u v (rw e wider) (here v c.node);
        }
