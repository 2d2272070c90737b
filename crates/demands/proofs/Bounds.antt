-- Ask 12: what the call with bounds says. Assumes nothing.
use Rattle.std.specs.Prelude.{◌≡◌}
use Rattle.base_lists.specs.Kit.{◌∙◌, sym, List, ℕ, arith, subst}
use Rattle.base_lists.proofs.Tests.{true-T}
use Rattle.base_lists.proofs.Tables.{replicate-tabulate}
use Rattle.graph.specs.Circuit.{Circuit}
use Rattle.file_format.specs.Circuit.{circuit_of}
use Rattle.file_format.specs.Layout.{CircuitFile, nodes_of}
use Rattle.file_format.specs.Refusals.{accept, first}
use Rattle.file_format.proofs.Fields.{length-labels}
use Rattle.file_format.proofs.Refusals.{accepted-verdict}
use Rattle.table.specs.declared.Counts.{Counts}
use Rattle.table.specs.Row.{InTable}
use Rattle.file_bounds.specs.Third.{before_bounds, bounds_of, third_conditions}
use Rattle.file_bounds.proofs.Fit.{at-fit}
use Rattle.file_bounds.proofs.Third.{third-accepted, third-long, prefix-verdicts}
use Rattle.bounded.specs.Run.{BoundedSets, BoundedRun}
use Rattle.bounded.proofs.Run.{bounded-run, bounded-found, bounded-missing}
use Rattle.bounded.specs.Problem.{bounded_table}
use Rattle.bounded.proofs.Wider.{raised-more}
use Rattle.call_bounded.proofs.Matching.{third-bounds}
use Rattle.call_bounded.proofs.Promise as call
use Rattle.demands.specs.Demands.{RowRun}
use Rattle.demands.specs.Bounds.{ThirdEdition, Ask12}

-- ---- accepted patterns

read : (pattern : List ℕ) → first (third_conditions pattern) ≡ accept → ThirdEdition pattern
read pattern e = record { long = third-long pattern e; drawn = (third-accepted pattern e).0; bounds = third-bounds pattern e }

taken : (pattern : List ℕ) → ThirdEdition pattern → first (third_conditions pattern) ≡ accept
taken pattern t =
    prefix-verdicts pattern t.long (true-T (at-fit (bounds_of pattern) (λ i h. (t.bounds.inside.some i h, t.bounds.inside.most i h)))) ∙ accepted-verdict t.drawn

-- ---- the table and the counts

-- the run of a row, by counts that are said to be its counts
run_by : (P : Circuit) (bounds : List ℕ) (B : Circuit) (last : List ℕ) {counts row : Counts} → counts ≡ row →
    ((c : BoundedRun P bounds B row.started row.rounds) × (c.table row.rounds ≡ last)) →
    ((c : RowRun (BoundedSets P bounds B) counts.started counts.rounds) × (c.table counts.rounds ≡ last))
run_by P bounds B last e (c, is) = rw e (record { table = c.table; holds = c.holds; started = c.started; differ = c.differ; rest = c.rest }, is)

-- "A link through a few parts": refusals, the table and the counts, all bounds 1, raised bounds.
pub ask-12 : Ask12
ask-12 =
    record {
      reads = λ pattern. (read pattern, taken pattern);
      matches = λ pattern board table t b room.
          let P = circuit_of (before_bounds pattern) in
          let B = circuit_of board in
          let bounds = bounds_of pattern in
          let ok = call.accepts pattern board table (taken pattern t) b room in
          let counted = call.counts-are pattern board table ok in
          let prefix = call.prefix-is pattern board table ok in
          let (run, ends) = run_by P bounds B _ counted (bounded-run P bounds B (call.parts-most pattern board table ok) t.bounds) in
          record {
            accepted = ok;
            largest = call.prefix-largest pattern board table ok;
            run = run;
            kept = call.counts-ones pattern board table ok;
            struck = omega (arith, call.counts-sum pattern board table ok);
            found = λ all. prefix ∙ bounded-found P bounds B (λ u h. rw ends at (all u (rw (length-labels (before_bounds pattern)) at h))) ∙ sym ends;
            missing = λ u h none. prefix ∙ bounded-missing P bounds B u (rw (length-labels (before_bounds pattern)) h) (λ v m. none v (rw ends m)) ∙ rw (length-labels board) (sym (replicate-tabulate (nodes_of board)));
            rest = call.rest-is pattern board table ok;
          };
      second = call.ones-second;
      raised = λ pattern pattern' board table table' same r ok ok' u v m.
          let more = raised-more (circuit_of (before_bounds pattern)) (circuit_of board) (call.bounds-each pattern board table ok) r (call.parts-most pattern board table ok) u v in
          let back = subst (λ (t : List ℕ). InTable t u v) (call.prefix-is pattern board table ok) m in
          let there = subst (λ (f : CircuitFile). InTable (bounded_table (circuit_of f) (bounds_of pattern') (circuit_of board)) u v) same (more back) in
          subst (λ (t : List ℕ). InTable t u v) (sym (call.prefix-is pattern' board table' ok')) there;
    }
