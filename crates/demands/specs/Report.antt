-- The report, quoted over what is proved of its text: `Reported`. proofs/Report proves it. The contract of the call
-- equates its reply and what it leaves with `reporting` of the inputs alone; it is refused by 8 alone (specs/Demands
-- `reports`). The program that reads the files: crate finder.
use Rattle.std.specs.Prelude.{◌≡◌, ◌↔◌, ◌++◌, ◌≤◌}
use Rattle.base_lists.specs.Kit.{List, [], ℕ, T, length, take}
use Rattle.base_lists.specs.Below.{count_below, concat_below}
use Rattle.file_format.specs.declared.Refusal.{Refusal}
use Rattle.file_format.specs.Circuit.{circuit_of}
use Rattle.file_format.specs.Layout.{CircuitFile, nodes_of, links_of, starts_of, ends_of}
use Rattle.file_format.specs.Refusals.{accept, refuse}
use Rattle.report.specs.Lines.{longest_line}
use Rattle.report.specs.Report.{node_items, link_items, place_line, has_place, centre_line, end_line, refusal_line, report_of}
use Rattle.report_answer.specs.Call.{files_verdict}
use Rattle.report_answer.specs.Whole.{called}
use Rattle.demands.specs.Demands.{Lent, Ready, placed_own, nine}

pub record Reported : Type 0 where
  -- calls one after another, from 0 with 0 found, each with a buffer that holds the longest line: their pieces, one
  -- after another, are the report
  pub whole : (pattern board : CircuitFile) (buffers : ℕ → List ℕ) → ((k : ℕ) → longest_line ≤ length (buffers k)) → (k : ℕ) → 513 ≤ k →
      (called pattern board buffers k).text ≡ report_of pattern board
  -- "A refused file gives one line, as `refused 3 pattern`."
  pub refused : (pattern board : CircuitFile) (x : Refusal) → files_verdict pattern board ≡ refuse x → report_of pattern board ≡ refusal_line x
  -- "Per centre with a place, rising: .. Last: `end`, how many centres have a place, `of`, N."
  pub lines : (pattern board : CircuitFile) → files_verdict pattern board ≡ accept → let P = circuit_of pattern in let B = circuit_of board in
      report_of pattern board ≡ concat_below (nodes_of board) (centre_line P B) ++ end_line (count_below (nodes_of board) (has_place P B)) (nodes_of board)
  -- The line of a centre, by the place call at the pattern's radius: "`place`, the centre, a colon, each node, a slash,
  -- each link ..; nodes rise, links are in file order", those that the call marks;
  pub place : (pattern board : CircuitFile) (w : ℕ) (lent : Lent) → Ready pattern board w lent → let result = placed_own pattern board w lent in
      result.reply.verdict ≡ accept →
      centre_line (circuit_of pattern) (circuit_of board) w
      ≡ place_line w (node_items (take (nodes_of board) result.nodes)) (link_items (starts_of board) (ends_of board) (take (links_of board) result.links))
  -- none where the call gives 9;
  pub none : (pattern board : CircuitFile) (w : ℕ) (lent : Lent) → Ready pattern board w lent → (placed_own pattern board w lent).reply.verdict ≡ refuse nine →
      centre_line (circuit_of pattern) (circuit_of board) w ≡ []
  -- and the last line counts the centres for which it accepts.
  pub counted : (pattern board : CircuitFile) (w : ℕ) (lent : Lent) → Ready pattern board w lent →
      T (has_place (circuit_of pattern) (circuit_of board) w) ↔ ((placed_own pattern board w lent).reply.verdict ≡ accept)
