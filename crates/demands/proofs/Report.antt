-- What a line of the report means, by the place call at the pattern's radius: where the call accepts, the centre has a
-- line, with the nodes and the links that the call marks; where it gives 9, it has none. call_place/proofs/Promise says
-- what the call's answers mean. Assumes nothing.
use Rattle.std.specs.Prelude.{◌≡◌, ◌↔◌, ◌++◌}
use Rattle.base_lists.specs.Kit.{◌∙◌, sym, List, [], ℕ, le_trans, T, take}
use Rattle.base_lists.specs.Below.{count_below, concat_below}
use Rattle.base_lists.proofs.Tests.{T_true, T_false}
use Rattle.file_format.specs.declared.Refusal.{Refusal}
use Rattle.file_format.specs.Circuit.{circuit_of}
use Rattle.file_format.specs.Layout.{CircuitFile, nodes_of, links_of, starts_of, ends_of}
use Rattle.file_format.specs.Refusals.{accept, refuse}
use Rattle.file_format.proofs.Fields.{length-labels}
use Rattle.file_pair.specs.Pair.{pair_conditions}
use Rattle.place.specs.Match.{radius_of, found}
use Rattle.place.specs.Outcome.{PlaceOutcome, place_verdict}
use Rattle.call_place.proofs.Promise.{verdict-is, found-verdict, none-verdict, nodes-prefix, links-prefix}
use Rattle.report.specs.Report.{node_items, link_items, place_line, has_place, centre_line, end_line, refusal_line, lines_of, report_for, report_of}
use Rattle.report_answer.specs.Call.{files_verdict}
use Rattle.report_answer.proofs.Promise.{items-few, report-whole}
use Rattle.demands.specs.Demands.{Lent, Ready, placed, placed_own, nine}
use Rattle.demands.specs.Report.{Reported}
use Rattle.demands.proofs.Merged.{ready-sound}

module _ (pattern board : CircuitFile) (w : ℕ) (lent : Lent) (x : Ready pattern board w lent) where
  abbrev r : ℕ
  r = radius_of (circuit_of pattern)

  abbrev result : PlaceOutcome
  result = placed_own pattern board w lent

  abbrev line : List ℕ
  line = centre_line (circuit_of pattern) (circuit_of board) w

  pub line-place : result.reply.verdict ≡ accept
      → line ≡ place_line w (node_items (take (nodes_of board) result.nodes)) (link_items (starts_of board) (ends_of board) (take (links_of board) result.links))
  unfolding placed_own placed centre_line has_place
  line-place e =
      let is_found = found-verdict (circuit_of pattern) (circuit_of board) w r (sym (verdict-is pattern board w r lent.nodes lent.links lent.table lent.distances (ready-sound x)) ∙ e) in
      rw (
        nodes-prefix pattern board w r lent.nodes lent.links lent.table lent.distances (ready-sound x) e,
        links-prefix pattern board w r lent.nodes lent.links lent.table lent.distances (ready-sound x) e,
        T_true {b = found (circuit_of pattern) (circuit_of board) w r} is_found,
      )

  pub line-none : result.reply.verdict ≡ refuse nine → line ≡ []
  unfolding placed_own placed nine centre_line has_place
  line-none e =
      rw (T_false {b = found (circuit_of pattern) (circuit_of board) w r}
      (none-verdict (circuit_of pattern) (circuit_of board) w r (sym (verdict-is pattern board w r lent.nodes lent.links lent.table lent.distances (ready-sound x)) ∙ e)))

  -- and the last line counts the centres with a place
  pub has-place : T (has_place (circuit_of pattern) (circuit_of board) w) ↔ (result.reply.verdict ≡ accept)
  unfolding placed_own placed has_place place_verdict
  has-place =
      let is = verdict-is pattern board w r lent.nodes lent.links lent.table lent.distances (ready-sound x) in (
        λ t. is ∙ rw (T_true {b = found (circuit_of pattern) (circuit_of board) w r} t),
        λ e. found-verdict (circuit_of pattern) (circuit_of board) w r (sym is ∙ e),
      )

-- by whether a file is refused
module _ (pattern board : CircuitFile) where
  one_line : (x : Refusal) → files_verdict pattern board ≡ refuse x → report_of pattern board ≡ refusal_line x
  unfolding report_of report_for pair_conditions
  one_line x e = rw e

  all_lines : files_verdict pattern board ≡ accept → let P = circuit_of pattern in let B = circuit_of board in
      report_of pattern board ≡ concat_below (nodes_of board) (centre_line P B) ++ end_line (count_below (nodes_of board) (has_place P B)) (nodes_of board)
  unfolding report_of report_for lines_of pair_conditions
  all_lines e = rw (e, length-labels board)

-- The report's text: of calls one after another, and line by line.
pub reported : Reported
reported =
    record {
      whole = λ pattern board buffers rooms k h. report-whole pattern board buffers rooms k (le_trans (items-few pattern board) h);
      refused = one_line;
      lines = all_lines;
      place = line-place;
      none = line-none;
      counted = has-place;
    }
