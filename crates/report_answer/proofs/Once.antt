-- A buffer that has room for the longest line 513 times takes every report in one piece. Assumes nothing.
use Rattle.std.specs.Prelude.{◌≡◌, ◌++◌, ◌≤◌, ◌+◌, ◌-◌, ◌*◌}
use Rattle.base_lists.specs.Kit.{◌∙◌, sym, ap, refl, not, List, ℕ, suc, zero, zero-le, le_refl, zero-add, length, length-append, arith, eq-eqb, le-leb}
use Rattle.base_lists.specs.Below.{concat_below}
use Rattle.base_lists.proofs.Below.{least_below-all}
use Rattle.graph.specs.Circuit.{Circuit}
use Rattle.file_format.specs.declared.Role.TheVariants.{Board}
use Rattle.file_format.specs.Circuit.{circuit_of, Bounded}
use Rattle.file_format.specs.Layout.{CircuitFile}
use Rattle.file_format.specs.Refusals.{Verdict, accept, refuse}
use Rattle.report.specs.Lines.{longest_line}
use Rattle.report.specs.Report.{centre_line, report_of}
use Rattle.report.proofs.Lengths.{centre-length}
use Rattle.report_pieces.specs.Pieces.{Piece, roomy, ends, closed, lines_from, lines_taken, centres_piece, lines_piece, refusal_piece}
use Rattle.report_answer.specs.Call.{files_verdict, piece_for, piece_of, reporting}
use Rattle.report_answer.specs.Whole.{items_for, items_of, piece_next, piece_text}
use Rattle.report_answer.proofs.Promise.{board-bounded, call-follows, next-is, items-whole}
use Rattle.report_answer.proofs.Whole.{prefix-start, places-start}

-- the last line follows where the centres are done and there is room
closed-next : (n room : ℕ) (p : Piece) → p.next ≡ n → length p.text + longest_line ≤ room → (closed n room p).next ≡ suc n
unfolding closed ends
closed-next n room p e h = rw (eq-eqb p.next n e, le-leb (length p.text + longest_line) room h)

module _ (pattern board : Circuit) (b : Bounded Board board) (room : ℕ) (enough : 513 * longest_line ≤ room) where
  abbrev n : ℕ
  n = length board.labels

  lines-short : (j : ℕ) → j ≤ n → length (lines_from pattern board 0 j) ≤ j * longest_line
  unfolding lines_from concat_below
  lines-short zero h = zero-le
  lines-short (suc j) h =
      omega (
        arith,
        length-append (concat_below j (λ i. centre_line pattern board (0 + i))) (centre_line pattern board (0 + j)),
        lines-short j (omega arith),
        centre-length pattern board (0 + j) b (omega arith),
      )

  -- before each line there is room for the longest
  taken : lines_taken pattern board 0 room ≡ n
  unfolding lines_taken
  taken =
      let all : n - 0 ≡ n = omega arith in
      rw all
      (least_below-all n (λ j. not (roomy room (length (lines_from pattern board 0 j))))
      (λ j h. rw (le-leb (length (lines_from pattern board 0 j) + longest_line) room (omega (arith, lines-short j (omega arith), b.nodes)))))

  -- so all of them are put, and the last line
  lines-once : (lines_piece pattern board 0 0 room).next ≡ suc n
  unfolding lines_piece centres_piece
  lines-once =
      closed-next n room (centres_piece pattern board 0 0 room) (zero-add (lines_taken pattern board 0 room) ∙ taken)
      (rw taken (omega (arith, lines-short n (le_refl n), b.nodes)))

module _ (pattern board : CircuitFile) (out : List ℕ) (enough : 513 * longest_line ≤ length out) where
  abbrev parts : Circuit
  parts = circuit_of pattern

  abbrev nodes : Circuit
  nodes = circuit_of board

  room : longest_line ≤ length out
  room = omega (arith, enough)

  piece-once : (v : Verdict) → files_verdict pattern board ≡ v → (piece_for v parts nodes 0 0 (length out)).next ≡ items_for v nodes
  unfolding piece_for items_for refusal_piece
  piece-once accept e = lines-once parts nodes (board-bounded pattern board e) (length out) enough
  piece-once (refuse x) e = refl

  -- The first call says that the report is at its end,
  pub ends-once : piece_next (reporting pattern board 0 0 out) ≡ items_of pattern board
  unfolding piece_of
  ends-once = next-is pattern board 0 0 out room ∙ piece-once (files_verdict pattern board) refl

  -- and what it puts is the report, whole.
  pub one_piece : piece_text (reporting pattern board 0 0 out) ≡ report_of pattern board
  one_piece =
      let (text, _, within, _, _) = call-follows pattern board 0 0 out room zero-le (sym (places-start (files_verdict pattern board) parts nodes)) in
      ap (λ (xs : List ℕ). xs ++ piece_text (reporting pattern board 0 0 out)) (sym (prefix-start (files_verdict pattern board) parts nodes))
      ∙ text ∙ items-whole pattern board _ within (omega (arith, ends-once))
