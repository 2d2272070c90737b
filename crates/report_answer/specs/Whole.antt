-- The report by calls one after another: its items, of which each call puts some, and what calls with buffers of any length long enough come
-- to.
use Rattle.std.specs.Prelude.{◌≡◌, ◌++◌, ◌≤◌, ◌<◌}
use Rattle.base_lists.specs.Kit.{cond, List, [], ℕ, suc, zero, eqb, leb, length, get_or, take}
use Rattle.base_lists.specs.Below.{count_below, concat_below}
use Rattle.graph.specs.Circuit.{Circuit}
use Rattle.file_format.specs.Circuit.{circuit_of}
use Rattle.file_format.specs.Layout.{CircuitFile}
use Rattle.file_format.specs.Refusals.{Verdict, accept, refuse}
use Rattle.report.specs.Report.{has_place, centre_line, refusal_line, lines_of}
use Rattle.report_answer.specs.Call.{files_verdict, ReportOutcome, reporting}
use Rattle.report_pieces.specs.Pieces.{Piece}

-- ---- the items

-- how many items a report has: a line, which may be empty, for each centre, and the last line; or the one line of a refused file
unfoldable pub items_for : Verdict → Circuit → ℕ
items_for accept board = suc (length board.labels)
items_for (refuse x) board = 1

-- the text of the first k items
unfoldable pub prefix_for : Verdict → Circuit → Circuit → ℕ → List ℕ
prefix_for accept pattern board k = cond (leb k (length board.labels)) (concat_below k (centre_line pattern board)) (lines_of pattern board)
prefix_for (refuse x) pattern board k = cond (eqb k 0) [] (refusal_line x)

-- how many of the centres among them have a place
unfoldable pub places_for : Verdict → Circuit → Circuit → ℕ → ℕ
places_for accept pattern board k = let n = length board.labels in count_below (cond (leb k n) k n) (has_place pattern board)
places_for (refuse x) pattern board k = 0

-- the same of two files
abbrev pub items_of : CircuitFile → CircuitFile → ℕ
items_of pattern board = items_for (files_verdict pattern board) (circuit_of board)

abbrev pub prefix_of : CircuitFile → CircuitFile → ℕ → List ℕ
prefix_of pattern board = prefix_for (files_verdict pattern board) (circuit_of pattern) (circuit_of board)

abbrev pub places_of : CircuitFile → CircuitFile → ℕ → ℕ
places_of pattern board = places_for (files_verdict pattern board) (circuit_of pattern) (circuit_of board)

-- a piece puts the items from one on up to the one where it says to go on
pub record PieceFollows (v : Verdict) (pattern board : Circuit) (from : ℕ) (p : Piece) : Type 0 where
  pub text : prefix_for v pattern board from ++ p.text ≡ prefix_for v pattern board p.next
  pub found : p.found ≡ places_for v pattern board p.next
  pub within : p.next ≤ items_for v board
  pub forth : from ≤ p.next
  pub more : from < items_for v board → from < p.next

-- ---- the calls

-- the three numbers of a reply, and the bytes that were put
abbrev pub piece_next : ReportOutcome → ℕ
piece_next r = get_or r.reply.values 0 0

abbrev pub found_of : ReportOutcome → ℕ
found_of r = get_or r.reply.values 1 0

abbrev pub piece_size : ReportOutcome → ℕ
piece_size r = get_or r.reply.values 2 0

abbrev pub piece_text : ReportOutcome → List ℕ
piece_text r = take (piece_size r) r.out

-- where some calls have come to, and all that they put
pub record Stage : Type 0 where
  pub next : ℕ
  pub found : ℕ
  pub text : List ℕ

-- k calls, each with a buffer of its own: the first from 0 with 0 found, each further one from where the one before it said
unfoldable pub called : CircuitFile → CircuitFile → (ℕ → List ℕ) → ℕ → Stage
called pattern board buffers zero = record { next = 0; found = 0; text = [] }
called pattern board buffers (suc k) =
    let s = called pattern board buffers k in
    let r = reporting pattern board s.next s.found (buffers k) in
    record { next = piece_next r; found = found_of r; text = s.text ++ piece_text r }
